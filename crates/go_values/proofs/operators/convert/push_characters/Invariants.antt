use Rattle.std.proofs.Common.{◌≡◌, ◌++◌, List, drop}
use Rattle.std.specs.Prelude.{flat_map}
use Rattle.go_type.specs.Tree.{Ty}
use Rattle.go_core.specs.StepNumbers.{character_of}
use Rattle.go_values.specs.ValuesSeen.{value_of}
use Rattle.go_values.proofs.operators.convert.push_characters.Given as goal

abbrev pub invariant-cells : goal.invariant-cells
invariant-cells l =
    (ts : List Ty) → l.text.items ++ flat_map character_of (value_of ts (drop l.i l.cells)) ≡ l.fn.text.items ++ flat_map character_of (value_of ts l.cells)
