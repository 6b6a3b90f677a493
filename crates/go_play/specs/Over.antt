-- A frame that has come over those of its goroutine.
use Rattle.std.specs.Prelude.{◌≡◌, ℕ, List, ◌∷◌}
use Rattle.go_type.specs.Tree.{Ty}
use Rattle.go_core.specs.Goroutine as defined
use Rattle.go_state.specs.StateSeen.{frame_of, state_of}
use Rattle.go_state.specs.declared.state.frame.Frame.{Frame}
use Rattle.go_state.specs.declared.state.state.State.{State}
use Rattle.go_partners.specs.Moves.{frames_below}
use Rattle.go_partners.specs.Talks.{settled}

-- all else is as it was: the goroutine comes to the same, whatever frames it gets
abbrev pub IsOver : List Ty → ℕ → Frame → State → State → Type 0
IsOver ts g f s s' =
    (frames_below g (state_of ts s') ≡ frame_of ts f ∷ frames_below g (state_of ts s))
    × ((fs : List defined.Frame) (w : defined.Waiting) (u : ℕ) → settled g fs w u (state_of ts s') ≡ settled g fs w u (state_of ts s))
