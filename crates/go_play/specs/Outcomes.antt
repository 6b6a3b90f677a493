-- The state that comes of a step, by what the step has answered. Its frame, which was taken off the state for the step,
-- is put back over those that the goroutine has.
use Rattle.std.specs.Prelude.{◌≡◌, ℕ, ◌+◌, List, [], ◌∷◌, ◌++◌, Bool, true, false, Result, Ok, Err}
use Rattle.go_type.specs.Tree.{Ty}
use Rattle.go_core.specs.Frames.{to_panicking}
use Rattle.go_core.specs.Goroutine as defined
use Rattle.go_core.specs.Goroutine.{able, moved}
use Rattle.go_core.specs.RunPanic.{panic_value}
use Rattle.go_values.specs.ValuesSeen.{panic_of}
use Rattle.go_values.specs.declared.operators.did.Stop.{Stop}
use Rattle.go_values.specs.declared.operators.did.Stop.TheVariants as stop
use Rattle.go_state.specs.StateSeen.{end_of, frame_of, state_of, waiting_of}
use Rattle.go_state.specs.declared.state.frame.Frame.{Frame}
use Rattle.go_state.specs.declared.state.state.End.{End}
use Rattle.go_state.specs.declared.state.state.State.{State}
use Rattle.go_entries.specs.declared.entries.enter.Entered as entering
use Rattle.go_partners.specs.Moves.{frames_below}
use Rattle.go_partners.specs.Talks.{settled}
use Rattle.go_partners.specs.declared.selects.reach.Talked.{Talked}

-- with one more goroutine, which has this frame
abbrev pub with_started : defined.Frame → defined.State → defined.State
with_started f s = record s { goroutines = s.goroutines ++ record { frames = f ∷ []; waiting = able } ∷ [] }

abbrev pub with_end : defined.End → defined.State → defined.State
with_end e s = record s { end = e }

-- by the hidden type of the values of run-time panics, and the trees of the table's types
module _ (hidden : Ty) (ts : List Ty) (g : ℕ) where
  -- the frame panics, or there is no step
  abbrev pub Halted : Stop → Bool → Frame → State → State → Type 0
  Halted (stop.Panics q u) true f s s' =
      state_of ts s' ≡ moved g (to_panicking (panic_value hidden (panic_of q)) (frame_of ts f) ∷ frames_below g (state_of ts s)) (1 + u) (state_of ts s)
  Halted stop.NoStep false f s s' = Unit {0}
  Halted e b f s s' = ⊥

  -- the frame goes on
  abbrev pub WentOn : Result ℕ Stop → Bool → Frame → State → State → Type 0
  WentOn (Ok u) true f s s' = state_of ts s' ≡ moved g (frame_of ts f ∷ frames_below g (state_of ts s)) (1 + u) (state_of ts s)
  WentOn (Ok u) false f s s' = ⊥
  WentOn (Err e) b f s s' = Halted e b f s s'

  -- a new frame comes above it
  abbrev pub HasEntered : Result entering.Entered Stop → Bool → Frame → State → State → Type 0
  HasEntered (Ok e) true f s s' =
      state_of ts s' ≡ moved g (frame_of ts e.frame ∷ frame_of ts f ∷ frames_below g (state_of ts s)) (1 + e.units) (state_of ts s)
  HasEntered (Ok e) false f s s' = ⊥
  HasEntered (Err e) b f s s' = Halted e b f s s'

  -- a goroutine begins with a new frame
  abbrev pub HasBegun : Result entering.Entered Stop → Bool → Frame → State → State → Type 0
  HasBegun (Ok e) true f s s' =
      state_of ts s' ≡ with_started (frame_of ts e.frame) (moved g (frame_of ts f ∷ frames_below g (state_of ts s)) (1 + e.units) (state_of ts s))
  HasBegun (Ok e) false f s s' = ⊥
  HasBegun (Err e) b f s s' = Halted e b f s s'

  -- the goroutine waits for what is said, if anything
  abbrev pub HasTalked : Result Talked Stop → Bool → Frame → State → State → Type 0
  HasTalked (Ok t) true f s s' =
      state_of ts s' ≡ settled g (frame_of ts f ∷ frames_below g (state_of ts s)) (waiting_of ts t.waiting) t.units (state_of ts s)
  HasTalked (Ok t) false f s s' = ⊥
  HasTalked (Err e) b f s s' = Halted e b f s s'

  -- the run ends so
  abbrev pub HasTold : Result End Stop → Bool → Frame → State → State → Type 0
  HasTold (Ok e) true f s s' = state_of ts s' ≡ with_end (end_of e) (moved g (frame_of ts f ∷ frames_below g (state_of ts s)) 1 (state_of ts s))
  HasTold (Ok e) false f s s' = ⊥
  HasTold (Err e) b f s s' = Halted e b f s s'
