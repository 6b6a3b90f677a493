-- A run that was played is a run.
use Rattle.std.proofs.Common.{ℕ, List}
use Rattle.std.specs.Prelude.{Option, Some, None, IfSome}
use Rattle.go_type.specs.Tree.{Ty}
use Rattle.go_core.specs.CoreTree.{CoreProgram, InitStep}
use Rattle.go_core.specs.Goroutine.{Move}
use Rattle.go_core.specs.Run.{after, start}
use Rattle.go_state.specs.StateSeen.{state_of}
use Rattle.go_state.specs.declared.state.state.State as held
use Rattle.go_play.specs.Comes.{Comes}
use Rattle.go_schedule.specs.Runs.{IsOfSomeRun}

pub was_reached : (ts : List Ty) (p : CoreProgram) (order : List InitStep) (choices : List ℕ) (moves : List Move) (o : Option held.State) → Comes ts o (after p choices moves (start p order)) → IfSome o (λ s. IsOfSomeRun p order (state_of ts s))
was_reached ts p order choices moves (Some s) h = (choices, (moves, h))
was_reached ts p order choices moves None h = tt
