-- Predeclared functions whose calls are built.
use Rattle.go_typing.specs.Env as env
use Rattle.go_calls.specs.declared.calls.builtin.Built.{Built}
use Rattle.go_calls.specs.declared.calls.builtin.Built.TheVariants as code
use Rattle.go_calls.specs.declared.calls.printing.Printer.{Printer}
use Rattle.go_calls.specs.declared.calls.printing.Printer.TheVariants as printers

abbrev pub printer_view : Printer → env.Builtin
printer_view printers.Print = env.Print
printer_view printers.Println = env.Println

abbrev pub built_view : Built → env.Builtin
built_view code.Len = env.Len
built_view (code.Prints p) = printer_view p
