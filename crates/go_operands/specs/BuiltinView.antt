-- Go specification (as of Go 1.17), "Predeclared identifiers": which built-in function of go_typing each stands for.
use Rattle.go_typing.specs.Env as env
use Rattle.go_operands.specs.declared.rules.builtin.Builtin.{Builtin}
use Rattle.go_operands.specs.declared.rules.builtin.Builtin.TheVariants as builtin

abbrev pub builtin_view : Builtin → env.Builtin
builtin_view builtin.Append = env.Append
builtin_view builtin.Cap = env.Cap
builtin_view builtin.Close = env.Close
builtin_view builtin.Complex = env.Complex
builtin_view builtin.Copy = env.Copy
builtin_view builtin.Delete = env.Delete
builtin_view builtin.Imag = env.Imag
builtin_view builtin.Len = env.Len
builtin_view builtin.Make = env.Make
builtin_view builtin.New = env.New
builtin_view builtin.Panic = env.Panic
builtin_view builtin.Print = env.Print
builtin_view builtin.Println = env.Println
builtin_view builtin.Real = env.Real
builtin_view builtin.Recover = env.Recover
