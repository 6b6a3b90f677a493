use Rattle.std.proofs.Common.{◌≡◌, drop, map, ℕ, List}
use Rattle.go_type.specs.Tree.{Ty}
use Rattle.go_core.specs.Control.{all_produced}
use Rattle.go_core.specs.CoreTree.{CoreProgram}
use Rattle.go_values.specs.ValuesSeen.{entry_of}
use Rattle.go_state.proofs.ranges.entries.all_produced.Given as goal

abbrev pub invariant-entries : goal.invariant-entries
invariant-entries l =
    (ts : List Ty) (p : CoreProgram) (g : ℕ) → all_produced p g l.produced l.since (drop l.i (map (entry_of ts) l.entries)) ≡ all_produced p g l.produced l.since (map (entry_of ts) l.entries)
