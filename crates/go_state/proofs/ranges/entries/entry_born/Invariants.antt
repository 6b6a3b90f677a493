use Rattle.std.proofs.Common.{◌≡◌, drop, map, ℕ, List}
use Rattle.go_type.specs.Tree.{Ty}
use Rattle.go_core.specs.Control.{entry_born}
use Rattle.go_core.specs.CoreTree.{CoreProgram}
use Rattle.go_values.specs.ValuesSeen.{entry_of}
use Rattle.go_state.proofs.ranges.entries.entry_born.Given as goal

abbrev pub invariant-entries : goal.invariant-entries
invariant-entries l =
    (ts : List Ty) (p : CoreProgram) (g : ℕ) → entry_born p g l.birth l.produced (drop l.i (map (entry_of ts) l.entries)) ≡ entry_born p g l.birth l.produced (map (entry_of ts) l.entries)
