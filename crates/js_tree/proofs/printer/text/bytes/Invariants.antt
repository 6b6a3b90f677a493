use Rattle.std.proofs.Common.{◌≡◌, ◌++◌, drop}
use Rattle.js_tree.specs.Printed.{bytes_text}
use Rattle.js_tree.proofs.printer.text.bytes.Given as goal

abbrev pub invariant-loop-c : goal.invariant-loop-c
invariant-loop-c l = l.out ++ bytes_text (drop l.c-index l.bytes) ≡ l.initial.out ++ bytes_text l.bytes
