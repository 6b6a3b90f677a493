-- What a step comes to that looks at other goroutines. The frame that moves has been taken off, so a step doesn't depend
-- on what stood there.
use Rattle.std.specs.Prelude.{◌≡◌, ℕ, List, ◌∷◌, Option, Some, None, Result, Ok, Err, slice_get, slice_set}
use Rattle.go_type.specs.Tree.{Ty}
use Rattle.go_core.specs.CoreTree.{CoreProgram}
use Rattle.go_core.specs.Communicate.{frames_of}
use Rattle.go_core.specs.Frames.{panic_step}
use Rattle.go_core.specs.Goroutine as defined
use Rattle.go_core.specs.Goroutine.{moved}
use Rattle.go_values.specs.ValuesSeen.{panic_of}
use Rattle.go_values.specs.declared.operators.did.Stop.{Stop}
use Rattle.go_values.specs.declared.operators.did.Stop.TheVariants as stop
use Rattle.go_state.specs.StateSeen.{frame_of, state_of}
use Rattle.go_state.specs.declared.state.frame.Frame.{Frame}
use Rattle.go_state.specs.declared.state.state.State.{State}

abbrev pub waiting_in : Option defined.Goroutine → defined.Waiting
waiting_in None = defined.able
waiting_in (Some x) = x.waiting

-- the goroutine has these frames, and waits as it did
abbrev pub with_frames : ℕ → List defined.Frame → defined.State → defined.State
with_frames g frames s =
    record s { goroutines = slice_set s.goroutines g (record { frames = frames; waiting = waiting_in (slice_get s.goroutines g) }) }

abbrev pub frames_below : ℕ → defined.State → List defined.Frame
frames_below g s = frames_of (slice_get s.goroutines g)

-- a step of a goroutine's running frame
abbrev pub TalkStep : Type 0
TalkStep = defined.Frame → List defined.Frame → defined.State → Option defined.State

module _ (p : CoreProgram) (ts : List Ty) where
  -- there is no step, or one that panics, or memory is wanting
  abbrev pub Halts : Stop → ℕ → Frame → Frame → State → State → TalkStep → Type 0
  Halts stop.NoMemory g f f' s s' step = Unit {0}
  Halts stop.NoStep g f f' s s' step =
      (fs : List defined.Frame) → step (frame_of ts f) (frames_below g (state_of ts s)) (with_frames g fs (state_of ts s)) ≡ None
  Halts (stop.Panics panic units) g f f' s s' step =
      (fs : List defined.Frame)
      → step (frame_of ts f) (frames_below g (state_of ts s)) (with_frames g fs (state_of ts s))
      ≡ panic_step p.hidden g (panic_of panic) units (frame_of ts f') (frames_below g (state_of ts s)) (state_of ts s')

  -- a step of a goroutine from the first frame and state, in whose state it lacks that frame, to the second ones, after so
  -- many units; it goes on
  abbrev pub Moves : ℕ → Result ℕ Stop → Frame → Frame → State → State → TalkStep → Type 0
  Moves g (Ok units) f f' s s' step =
      (fs : List defined.Frame)
      → step (frame_of ts f) (frames_below g (state_of ts s)) (with_frames g fs (state_of ts s))
      ≡ Some (moved g (frame_of ts f' ∷ frames_below g (state_of ts s)) units (state_of ts s'))
  Moves g (Err e) f f' s s' step = Halts e g f f' s s' step
