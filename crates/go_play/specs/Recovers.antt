-- What `recover` comes to among the frames of a goroutine. This word is for a private clause.
use Rattle.std.specs.Prelude.{◌≡◌, ℕ, ◌+◌, List, ◌∷◌, Some, None, Result, Ok, Err}
use Rattle.go_type.specs.Tree.{Ty}
use Rattle.go_core.specs.CoreTree.{CoreProgram}
use Rattle.go_core.specs.Goroutine as defined
use Rattle.go_core.specs.Goroutine.{moved}
use Rattle.go_core.specs.Panics.{recover_step}
use Rattle.go_values.specs.declared.operators.did.Stop.{Stop}
use Rattle.go_values.specs.declared.operators.did.Stop.TheVariants as stop
use Rattle.go_state.specs.StateSeen.{frame_of, state_of}
use Rattle.go_state.specs.declared.state.frame.Frame.{Frame}
use Rattle.go_state.specs.declared.state.state.State.{State}
use Rattle.go_partners.specs.Moves.{frames_below}

module _ (p : CoreProgram) (ts : List Ty) (g : ℕ) where
  -- the frames of the second state are those that the step leaves; all else is as it was
  abbrev pub Recovers : Result ℕ Stop → Frame → Frame → State → State → Type 0
  Recovers (Ok u) f f' s s' =
      ((t : defined.State) → recover_step p g (frame_of ts f) (frames_below g (state_of ts s)) t ≡ Some (moved g (frame_of ts f' ∷ frames_below g (state_of ts s')) (1 + u) t))
      × ((fs : List defined.Frame) (n : ℕ) → moved g fs n (state_of ts s') ≡ moved g fs n (state_of ts s))
  Recovers (Err stop.NoMemory) f f' s s' = Unit {0}
  Recovers (Err stop.NoStep) f f' s s' = (t : defined.State) → recover_step p g (frame_of ts f) (frames_below g (state_of ts s)) t ≡ None
  Recovers (Err (stop.Panics q u)) f f' s s' = ⊥
