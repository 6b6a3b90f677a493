-- What a step comes to where its parts are known.
use Rattle.std.proofs.Common.{◌≡◌, ap, sym, ◌∙◌, ℕ, ◌+◌, List, ◌∷◌}
use Rattle.std.specs.Prelude.{Option, Some, None, Result, Ok, Err, IsErrAnd}
use Rattle.go_type.specs.Tree.{Ty}
use Rattle.go_core.specs.CoreTree.{CoreProgram}
use Rattle.go_core.specs.Memory as core
use Rattle.go_core.specs.Did.{Did}
use Rattle.go_core.specs.Goroutine as defined
use Rattle.go_core.specs.Goroutine.{moved, with_memory}
use Rattle.go_core.specs.Frames.{did_step, with_more}
use Rattle.go_core.specs.Assign.{bound_step}
use Rattle.go_core.specs.Calls.{Bindings}
use Rattle.go_state.specs.Bound.{Binds, Written, bindings_of}
use Rattle.go_state.specs.RangesFound.{Lacks}
use Rattle.go_values.specs.ValuesSeen.{memory_of}
use Rattle.go_values.specs.declared.values.memory.Memory.{Memory}
use Rattle.go_values.specs.OperatorsSeen as seen
use Rattle.go_values.specs.OperatorsSeen.{Stops}
use Rattle.go_values.specs.declared.operators.did.Gives.{Gives}
use Rattle.go_values.specs.declared.operators.did.Stop.{Stop}
use Rattle.go_values.specs.declared.operators.did.Stop.TheVariants as stop
use Rattle.go_state.specs.StateSeen.{frame_of}
use Rattle.go_state.specs.declared.state.frame.Frame.{Frame}
use Rattle.go_state.specs.Goes.{Goes, Halts, FrameStep}
use Rattle.go_state.proofs.GoesLemmas.{halted}

module _ (p : CoreProgram) (ts : List Ty) where
  -- what an operator does stops
  pub did_halts : (x : Stop) (d : Did) (f : Frame) (m : Memory) (step : ℕ → List defined.Frame → defined.State → Option defined.State)
      → ((g : ℕ) (below : List defined.Frame) (s : defined.State) → step g below s ≡ did_step p.hidden g d (frame_of ts f) below (with_memory (memory_of ts m) s))
      → Stops x d → Halts p ts x f m step
  did_halts stop.NoMemory d f m step h i = tt
  did_halts stop.NoStep d f m step h i = λ g below s. h g below s ∙ ap (λ (e : Did). did_step p.hidden g e (frame_of ts f) below (with_memory (memory_of ts m) s)) i
  did_halts (stop.Panics q u) d f m step h i = λ g below s. h g below s ∙ ap (λ (e : Did). did_step p.hidden g e (frame_of ts f) below (with_memory (memory_of ts m) s)) i

  pub did_halted : (r : Result ℕ Stop) (x : Stop) (d : Did) (f f' : Frame) (m m' : Memory) (step : FrameStep) → IsErrAnd r (λ y. y ≡ x)
      → ((g : ℕ) (below : List defined.Frame) (s : defined.State)
      → step g (frame_of ts f) below (with_memory (memory_of ts m) s) ≡ did_step p.hidden g d (frame_of ts f') below (with_memory (memory_of ts m') s))
      → Stops x d → Goes p ts r f f' m m' step
  did_halted r x d f f' m m' step i h e =
      halted p ts r x f f' m m' step i (did_halts x d f' m' (λ g below s. step g (frame_of ts f) below (with_memory (memory_of ts m) s)) h e)

  -- what an operator gives is done
  pub did_goes : (g : ℕ) (below : List defined.Frame) (s : defined.State) (d : Did) (x : Gives) (f f' : Frame) (m m' : Memory)
      → d ≡ seen.given ts (memory_of ts m) x → memory_of ts m' ≡ seen.changed ts (memory_of ts m) x.change
      → frame_of ts f' ≡ with_more (seen.values_of ts x.values) (frame_of ts f)
      → did_step p.hidden g d (frame_of ts f) below (with_memory (memory_of ts m) s)
      ≡ Some (with_memory (memory_of ts m') (moved g (frame_of ts f' ∷ below) (1 + x.units) s))
  did_goes g below s d x f f' m m' e em ef =
      ap (λ (c : Did). did_step p.hidden g c (frame_of ts f) below (with_memory (memory_of ts m) s)) e
      ∙ ap (λ (w : core.Memory). Some (with_memory w (moved g (with_more (seen.values_of ts x.values) (frame_of ts f) ∷ below) (1 + x.units) s))) (sym em)
      ∙ ap (λ (h : defined.Frame). Some (with_memory (memory_of ts m') (moved g (h ∷ below) (1 + x.units) s))) (sym ef)

  -- what a range has none of
  pub found_none : (A : ℕ → Type 0) (r : Result ℕ Stop) (x : Stop) (o none : (g : ℕ) → A g) (f f' : Frame) (m m' : Memory) (step : FrameStep) → IsErrAnd r (λ y. y ≡ x)
      → ((g : ℕ) (below : List defined.Frame) (s : defined.State) → o g ≡ none g → step g (frame_of ts f) below (with_memory (memory_of ts m) s) ≡ None)
      → ((g : ℕ) → Lacks x (o g) (none g)) → Goes p ts r f f' m m' step
  found_none A r x o none f f' m m' step i h l =
      halted p ts r x f f' m m' step i (by_stop x h l)
    where
      by_stop : (x : Stop) → ((g : ℕ) (below : List defined.Frame) (s : defined.State) → o g ≡ none g → step g (frame_of ts f) below (with_memory (memory_of ts m) s) ≡ None)
          → ((g : ℕ) → Lacks x (o g) (none g)) → Halts p ts x f' m' (λ g below s. step g (frame_of ts f) below (with_memory (memory_of ts m) s))
      by_stop stop.NoMemory h l = tt
      by_stop stop.NoStep h l = λ g below s. h g below s (l g)
      by_stop (stop.Panics q u) h l = absurd (l 0)

  -- variables are bound, or there is no step
  pub bound_goes : (r : Result ℕ Stop) (o : Option Bindings) (f f1 f' : Frame) (m m' : Memory) (step : FrameStep)
      → ((g : ℕ) (below : List defined.Frame) (s : defined.State)
      → step g (frame_of ts f) below (with_memory (memory_of ts m) s) ≡ bound_step p g o (frame_of ts f1) below (with_memory (memory_of ts m) s))
      → Binds ts r f'.places.items m' o
      → ((units : ℕ) → record (frame_of ts f1) { places = (bindings_of ts f'.places.items m' units).places } ≡ frame_of ts f')
      → Goes p ts r f f' m m' step
  bound_goes (Ok units) o f f1 f' m m' step h b e = λ g below s.
      h g below s
      ∙ ap (λ (q : Option Bindings). bound_step p g q (frame_of ts f1) below (with_memory (memory_of ts m) s)) b
      ∙ ap (λ (x : defined.Frame). Some (with_memory (memory_of ts m') (moved g (x ∷ below) (1 + units) s))) (e units)
  bound_goes (Err stop.NoMemory) o f f1 f' m m' step h b e = tt
  bound_goes (Err stop.NoStep) o f f1 f' m m' step h b e = λ g below s.
      h g below s ∙ ap (λ (q : Option Bindings). bound_step p g q (frame_of ts f1) below (with_memory (memory_of ts m) s)) b
  bound_goes (Err (stop.Panics q u)) o f f1 f' m m' step h b e = absurd b

  -- what has no place isn't written
  pub written_none : (r : Result ℕ Stop) (x : Stop) (o : ℕ → Option core.Memory) (w : Memory) (f f' : Frame) (m m' : Memory) (step : FrameStep) → IsErrAnd r (λ y. y ≡ x)
      → ((g : ℕ) (below : List defined.Frame) (s : defined.State) → o g ≡ None → step g (frame_of ts f) below (with_memory (memory_of ts m) s) ≡ None)
      → ((g : ℕ) → Written ts (Err x) w (o g)) → Goes p ts r f f' m m' step
  written_none r x o w f f' m m' step i h l =
      halted p ts r x f f' m m' step i (by_stop x h l)
    where
      by_stop : (x : Stop) → ((g : ℕ) (below : List defined.Frame) (s : defined.State) → o g ≡ None → step g (frame_of ts f) below (with_memory (memory_of ts m) s) ≡ None)
          → ((g : ℕ) → Written ts (Err x) w (o g)) → Halts p ts x f' m' (λ g below s. step g (frame_of ts f) below (with_memory (memory_of ts m) s))
      by_stop stop.NoMemory h l = tt
      by_stop stop.NoStep h l = λ g below s. h g below s (l g)
      by_stop (stop.Panics q u) h l = absurd (l 0)
