use Rattle.std.proofs.Common.{◌≡◌, ◌++◌, List, map, drop}
use Rattle.go_type.specs.Tree.{Ty}
use Rattle.go_core.specs.StepNumbers.{whole_of}
use Rattle.go_values.specs.ValuesSeen.{value_of}
use Rattle.go_values.proofs.operators.convert.wholes_of_bytes.Given as goal

abbrev pub invariant-bytes : goal.invariant-bytes
invariant-bytes l = (ts : List Ty) → value_of ts l.cells.items ++ map whole_of (drop l.i l.bytes) ≡ map whole_of l.bytes
