use Rattle.std.proofs.Common.{◌≡◌, drop, ℕ}
use Rattle.go_core.specs.Control.{is_in}
use Rattle.go_core.specs.CoreTree.{CoreProgram}
use Rattle.go_state.proofs.ranges.entries.is_in.Given as goal

abbrev pub invariant-births : goal.invariant-births
invariant-births l = (p : CoreProgram) (g : ℕ) → is_in p g l.n (drop l.i l.produced) ≡ is_in p g l.n l.produced
