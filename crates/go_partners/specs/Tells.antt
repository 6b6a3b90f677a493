-- What a step comes to that prints, and one that ends the run, in any state.
use Rattle.std.specs.Prelude.{◌≡◌, ℕ, ◌+◌, List, ◌∷◌, Option, Some, Result, Ok, Err}
use Rattle.go_type.specs.Tree.{Ty}
use Rattle.go_core.specs.Goroutine as defined
use Rattle.go_core.specs.Goroutine.{moved}
use Rattle.go_values.specs.declared.operators.did.Stop.{Stop}
use Rattle.go_state.specs.StateSeen.{end_of, frame_of}
use Rattle.go_state.specs.declared.state.frame.Frame.{Frame}
use Rattle.go_state.specs.declared.state.state.End.{End}
use Rattle.go_state.specs.FrameStepsFound.{NoStep}
use Rattle.go_state.specs.Goes.{FrameStep}

-- the state in which these bytes were printed
abbrev pub with_printed : List ℕ → defined.State → defined.State
with_printed bytes s = record s { printed = bytes }

abbrev pub ended_as : defined.End → defined.State → defined.State
ended_as e s = record s { end = e }

module _ (ts : List Ty) where
  -- a step from the first frame to the second one, which adds so many units to its one, and after which the second bytes
  -- were printed where the first ones had been
  abbrev pub Prints : Result ℕ Stop → Frame → Frame → List ℕ → List ℕ → FrameStep → Type 0
  Prints (Ok units) f f' old new step =
      (g : ℕ) (below : List defined.Frame) (s : defined.State)
      → step g (frame_of ts f) below (with_printed old s) ≡ Some (with_printed new (moved g (frame_of ts f' ∷ below) (1 + units) s))
  Prints (Err e) f f' old new step = (g : ℕ) (below : List defined.Frame) (s : defined.State) → NoStep e (step g (frame_of ts f) below (with_printed old s))

  -- a step of one unit to this frame, which ends the run
  abbrev pub Tells : Result End Stop → Frame → (ℕ → List defined.Frame → defined.State → Option defined.State) → Type 0
  Tells (Ok e) f step = (g : ℕ) (below : List defined.Frame) (s : defined.State) → step g below s ≡ Some (ended_as (end_of e) (moved g (frame_of ts f ∷ below) 1 s))
  Tells (Err e) f step = (g : ℕ) (below : List defined.Frame) (s : defined.State) → NoStep e (step g below s)
