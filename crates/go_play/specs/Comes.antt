-- What a run comes to.
use Rattle.std.specs.Prelude.{◌≡◌, ℕ, List, if◌then◌else◌, Option, Some, None, slice_get}
use Rattle.go_type.specs.Tree.{Ty}
use Rattle.go_core.specs.Communicate.{any_moves}
use Rattle.go_core.specs.CoreTree.{CoreProgram}
use Rattle.go_core.specs.Goroutine as defined
use Rattle.go_core.specs.GoStep.{goroutine_step}
use Rattle.go_core.specs.Run.{deadlocked}
use Rattle.go_state.specs.StateSeen.{state_of}
use Rattle.go_state.specs.declared.state.state.State.{State}

-- a run goes on to a state, or a move can't be made
abbrev pub Comes : List Ty → Option State → Option defined.State → Type 0
Comes ts (Some s) o = o ≡ Some (state_of ts s)
Comes ts None o = o ≡ None

-- a step of a run that hasn't ended. This word is for a private clause
abbrev pub free_step : CoreProgram → List ℕ → defined.Move → defined.State → Option defined.State
free_step p choices move s =
    if any_moves 0 s.goroutines s
    then goroutine_step p choices move move.goroutine (slice_get s.goroutines move.goroutine) s
    else Some (deadlocked s)
