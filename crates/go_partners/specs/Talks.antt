-- What a step comes to that looks at other goroutines, and after which its goroutine may wait.
use Rattle.std.specs.Prelude.{◌≡◌, ℕ, ◌+◌, List, ◌∷◌, Some, Result, Ok, Err, slice_set}
use Rattle.go_type.specs.Tree.{Ty}
use Rattle.go_core.specs.CoreTree.{CoreProgram}
use Rattle.go_core.specs.Goroutine as defined
use Rattle.go_values.specs.declared.operators.did.Stop.{Stop}
use Rattle.go_state.specs.StateSeen.{frame_of, state_of, waiting_of}
use Rattle.go_state.specs.declared.state.frame.Frame.{Frame}
use Rattle.go_state.specs.declared.state.state.State.{State}
use Rattle.go_partners.specs.Moves.{TalkStep, Halts, frames_below, with_frames}
use Rattle.go_partners.specs.declared.selects.reach.Talked.{Talked}

-- the goroutine has these frames and waits for this, after so many units
abbrev pub settled : ℕ → List defined.Frame → defined.Waiting → ℕ → defined.State → defined.State
settled g frames w units s =
    record s { goroutines = slice_set s.goroutines g (record { frames = frames; waiting = w }); units = s.units + units }

-- a step of a goroutine from the first frame and state, in whose state it lacks that frame, to the second ones, after so
-- many units; then it waits for what is said, if anything
abbrev pub Talks : CoreProgram → List Ty → ℕ → Result Talked Stop → Frame → Frame → State → State → TalkStep → Type 0
Talks p ts g (Ok t) f f' s s' step =
    (fs : List defined.Frame)
    → step (frame_of ts f) (frames_below g (state_of ts s)) (with_frames g fs (state_of ts s))
    ≡ Some (settled g (frame_of ts f' ∷ frames_below g (state_of ts s)) (waiting_of ts t.waiting) t.units (state_of ts s'))
Talks p ts g (Err e) f f' s s' step = Halts p ts e g f f' s s' step
