use Rattle.std.proofs.Common.{◌≡◌, drop, List}
use Rattle.go_type.specs.Tree.{Ty}
use Rattle.go_core.specs.Communicate.{any_moves}
use Rattle.go_state.specs.StateSeen.{state_of}
use Rattle.go_partners.proofs.partners.moves.any_moves.Given as goal

abbrev pub invariant-goroutines : goal.invariant-goroutines
invariant-goroutines l =
    (ts : List Ty) → any_moves l.g (drop l.g (state_of ts l.state).goroutines) (state_of ts l.state) ≡ any_moves 0 (state_of ts l.state).goroutines (state_of ts l.state)
