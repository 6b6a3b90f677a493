-- What the end of a frame comes to among the frames of its goroutine. This word is for a private clause.
use Rattle.std.specs.Prelude.{◌≡◌, ℕ, List, [], Option, Some, None, Result, Ok, Err}
use Rattle.go_type.specs.Tree.{Ty}
use Rattle.go_core.specs.CoreTree.{CoreProgram}
use Rattle.go_core.specs.Goroutine as defined
use Rattle.go_core.specs.Goroutine.{moved}
use Rattle.go_core.specs.Panics.{ended_step}
use Rattle.go_entries.specs.Leaves.{ended_as}
use Rattle.go_partners.specs.Moves.{TalkStep, frames_below, with_frames}
use Rattle.go_values.specs.declared.operators.did.Stop.{Stop}
use Rattle.go_values.specs.declared.operators.did.Stop.TheVariants as stop
use Rattle.go_state.specs.StateSeen.{frame_of, state_of}
use Rattle.go_state.specs.declared.state.frame.Frame.{Frame}
use Rattle.go_state.specs.declared.state.state.End.{End}
use Rattle.go_state.specs.declared.state.state.State.{State}

-- a frame ends of whose body nothing is left
abbrev pub ending : CoreProgram → ℕ → TalkStep
ending p g f below s = ended_step p g f.deferred_calls (record f { tasks = []; values = [] }) below s

module _ (p : CoreProgram) (ts : List Ty) (g : ℕ) where
  -- from the first state, from which the frame has been taken off, the goroutine comes to the frames that it has in the
  -- second one
  abbrev pub EndsIn : Result (Option End) Stop → Frame → State → State → Type 0
  EndsIn (Ok e) f s s' =
      (fs : List defined.Frame)
      → ending p g (frame_of ts f) (frames_below g (state_of ts s)) (with_frames g fs (state_of ts s))
      ≡ Some (ended_as e (moved g (frames_below g (state_of ts s')) 1 (state_of ts s')))
  EndsIn (Err stop.NoMemory) f s s' = Unit {0}
  EndsIn (Err stop.NoStep) f s s' =
      (fs : List defined.Frame) → ending p g (frame_of ts f) (frames_below g (state_of ts s)) (with_frames g fs (state_of ts s)) ≡ None
  EndsIn (Err (stop.Panics q u)) f s s' = ⊥
