use Rattle.std.proofs.Common.{◌≡◌, ◌++◌, List, map, drop}
use Rattle.go_type.specs.Tree.{Ty}
use Rattle.go_core.specs.StepNumbers.{number_in}
use Rattle.go_values.specs.ValuesSeen.{value_of}
use Rattle.go_values.proofs.operators.convert.push_bytes.Given as goal

abbrev pub invariant-cells : goal.invariant-cells
invariant-cells l = (ts : List Ty) → l.text.items ++ map number_in (value_of ts (drop l.i l.cells)) ≡ l.fn.text.items ++ map number_in (value_of ts l.cells)
