-- A step of a goroutine that is made, or that can't be made.
use Rattle.std.specs.Prelude.{◌≡◌, ℕ, List, Bool, true, false, Some, None}
use Rattle.go_type.specs.Tree.{Ty}
use Rattle.go_core.specs.Goroutine as defined
use Rattle.go_state.specs.StateSeen.{frame_of, state_of}
use Rattle.go_state.specs.declared.state.frame.Frame.{Frame}
use Rattle.go_state.specs.declared.state.state.State.{State}
use Rattle.go_partners.specs.Moves.{TalkStep, frames_below, with_frames}

-- it is made from the first state, from which this running frame has been taken off, to the second one
module _ (ts : List Ty) (g : ℕ) where
  abbrev pub Plays : Bool → Frame → State → State → TalkStep → Type 0
  Plays true f s s' step =
      (fs : List defined.Frame) → step (frame_of ts f) (frames_below g (state_of ts s)) (with_frames g fs (state_of ts s)) ≡ Some (state_of ts s')
  Plays false f s s' step =
      (fs : List defined.Frame) → step (frame_of ts f) (frames_below g (state_of ts s)) (with_frames g fs (state_of ts s)) ≡ None
