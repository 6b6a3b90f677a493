-- The end of a frame, among those of its goroutine.
use Rattle.std.proofs.Common.{◌≡◌, ◌<◌, sym, ap, ◌∙◌, ℕ, List, [], map, length, get_or}
use Rattle.std.specs.Prelude.{Option, Some, Result, Ok, Err, slice_set}
use Rattle.go_type.specs.Tree.{Ty}
use Rattle.go_core.specs.CoreTree.{CoreProgram}
use Rattle.go_core.specs.Goroutine.{Frame, State, able, moved, with_memory}
use Rattle.go_core.specs.Panics.{ended_step}
use Rattle.go_values.specs.ValuesSeen.{memory_of}
use Rattle.go_values.specs.declared.values.memory.Memory as held_memory
use Rattle.go_values.specs.declared.operators.did.Stop.{Stop}
use Rattle.go_values.specs.declared.operators.did.Stop.TheVariants as stop
use Rattle.go_state.specs.StateSeen.{frame_of, goroutine_of, stacked, state_of}
use Rattle.go_state.specs.declared.state.frame.Frame as held_frame
use Rattle.go_state.specs.declared.state.state.End.{End}
use Rattle.go_state.specs.declared.state.state.Goroutine as held_goroutine
use Rattle.go_state.specs.declared.state.state.State as held
use Rattle.go_entries.specs.Leaves.{Leaves, ended_as}
use Rattle.go_partners.specs.Moves.{frames_below, with_frames}
use Rattle.go_partners.proofs.WakeLemmas.{moved_over}
use Rattle.go_play.proofs.OverLemmas.{below_is, below_written, settled_over}
use Rattle.go_play.specs.Ends.{ending, EndsIn}

abbrev emptied : Frame → Frame
emptied f = record f { tasks = []; values = [] }

module _ (p : CoreProgram) (ts : List Ty) (g : ℕ) where
  -- the frames that stood there, and those that were written there
  pub ends_in : (r : Result (Option End) Stop) (f : held_frame.Frame) (s m : held.State) (k : held_memory.Memory) (x y : held_goroutine.Goroutine)
      → g < length s.goroutines.items → x ≡ get_or s.goroutines.items g x
      → state_of ts m ≡ (let t : State = record (with_memory (memory_of ts k) (state_of ts s)) { goroutines = map (goroutine_of ts) (slice_set s.goroutines.items g y) } in t)
      → Leaves ts r y.frames.items k (λ h t. ended_step p h (frame_of ts f).deferred_calls (emptied (frame_of ts f)) (stacked (frame_of ts) x.frames.items) (with_memory (memory_of ts s.memory) t))
      → EndsIn p ts g r f s m
  ends_in (Ok e) f s m k x y l q n h = λ fs.
      let xs = s.goroutines.items in
      let new = stacked (frame_of ts) y.frames.items in
      let s1 = with_memory (memory_of ts k) (state_of ts s) in
      ap (λ (b : List Frame). ending p g (frame_of ts f) b (with_frames g fs (state_of ts s))) (below_is ts xs g x l q)
      ∙ h g (with_frames g fs (state_of ts s))
      ∙ ap (λ (t : State). Some (ended_as e t)) (moved_over g fs new 1 s1 ∙ sym (ap (λ (t : State). moved g new 1 t) n ∙ settled_over ts xs g 1 y new able s1))
      ∙ ap (λ (b : List Frame). Some (ended_as e (moved g b 1 (state_of ts m)))) (sym (ap (λ (t : State). frames_below g t) n ∙ below_written ts xs g y l))
  ends_in (Err stop.NoMemory) f s m k x y l q n h = tt
  ends_in (Err stop.NoStep) f s m k x y l q n h = λ fs.
      ap (λ (b : List Frame). ending p g (frame_of ts f) b (with_frames g fs (state_of ts s))) (below_is ts s.goroutines.items g x l q) ∙ h g (with_frames g fs (state_of ts s))
  ends_in (Err (stop.Panics u v)) f s m k x y l q n h = h
