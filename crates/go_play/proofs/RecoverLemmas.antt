-- `recover`, among the frames of a goroutine.
use Rattle.std.proofs.Common.{◌≡◌, ◌<◌, sym, ap, ◌∙◌, ℕ, List, ◌∷◌, map, length, get_or}
use Rattle.std.specs.Prelude.{◌+◌, Some, Result, Ok, Err, slice_set}
use Rattle.go_type.specs.Tree.{Ty}
use Rattle.go_core.specs.CoreTree.{CoreProgram}
use Rattle.go_core.specs.Goroutine.{Frame, State, able, moved}
use Rattle.go_core.specs.Panics.{recover_step}
use Rattle.go_values.specs.declared.operators.did.Stop.{Stop}
use Rattle.go_values.specs.declared.operators.did.Stop.TheVariants as stop
use Rattle.go_state.specs.StateSeen.{frame_of, goroutine_of, stacked, state_of}
use Rattle.go_state.specs.declared.state.frame.Frame as held_frame
use Rattle.go_state.specs.declared.state.state.Goroutine as held_goroutine
use Rattle.go_state.specs.declared.state.state.State as held
use Rattle.go_partners.specs.Moves.{frames_below}
use Rattle.go_entries.specs.Enters.{StaysAbove}
use Rattle.go_play.proofs.OverLemmas.{below_is, below_written, settled_over}
use Rattle.go_play.specs.Recovers.{Recovers}

module _ (p : CoreProgram) (ts : List Ty) (g : ℕ) where
  -- the frames that stood there, and those that were written there
  pub recovers : (r : Result ℕ Stop) (f f' : held_frame.Frame) (s m : held.State) (x y : held_goroutine.Goroutine) → g < length s.goroutines.items → x ≡ get_or s.goroutines.items g x
      → state_of ts m ≡ (let t : State = record (state_of ts s) { goroutines = map (goroutine_of ts) (slice_set s.goroutines.items g y) } in t)
      → StaysAbove p ts r f' y.frames.items (λ h t. recover_step p h (frame_of ts f) (stacked (frame_of ts) x.frames.items) t) → Recovers p ts g r f f' s m
  recovers (Ok u) f f' s m x y l e n h =
      let xs = s.goroutines.items in (
        λ t.
            ap (λ (b : List Frame). recover_step p g (frame_of ts f) b t) (below_is ts xs g x l e)
            ∙ h g t
            ∙ ap (λ (b : List Frame). Some (moved g (frame_of ts f' ∷ b) (1 + u) t)) (sym (ap (λ (t : State). frames_below g t) n ∙ below_written ts xs g y l)),
        λ fs k. ap (λ (t : State). moved g fs k t) n ∙ settled_over ts xs g k y fs able (state_of ts s),
      )
  recovers (Err stop.NoMemory) f f' s m x y l e n h = tt
  recovers (Err stop.NoStep) f f' s m x y l e n h = λ t. ap (λ (b : List Frame). recover_step p g (frame_of ts f) b t) (below_is ts s.goroutines.items g x l e) ∙ h g t
  recovers (Err (stop.Panics q u)) f f' s m x y l e n h = h
