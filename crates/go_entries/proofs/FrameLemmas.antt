-- The frames that a step leaves.
use Rattle.std.proofs.Common.{◌≡◌, refl, ap, sym, ◌∙◌, subst, arith, length, ℕ, List, [], ◌∷◌, ◌++◌}
use Rattle.std.specs.Prelude.{Option, Some, None, Result, Ok, Err, IsErrAnd}
use Rattle.std.proofs.lemmas.List.{append-nil}
use Rattle.std.proofs.lemmas.List.Sums.{fold-append}
use Rattle.go_type.specs.Tree.{Ty}
use Rattle.go_core.specs.CoreTree.{CoreProgram}
use Rattle.go_core.specs.Calls as calls
use Rattle.go_core.specs.Memory as core
use Rattle.go_core.specs.Memory.{Value}
use Rattle.go_core.specs.Panics.{removed_panicking}
use Rattle.go_core.specs.Goroutine as defined
use Rattle.go_core.specs.Goroutine.{moved, with_memory}
use Rattle.go_values.specs.ValuesSeen.{memory_of}
use Rattle.go_values.specs.declared.values.memory.Memory.{Memory}
use Rattle.go_values.specs.declared.operators.did.Stop.{Stop}
use Rattle.go_values.specs.declared.operators.did.Stop.TheVariants as stop
use Rattle.go_state.specs.StateSeen.{frame_of, invocation_of, stacked}
use Rattle.go_state.specs.declared.state.frame.Frame.{Frame}
use Rattle.go_state.specs.declared.state.frame.Invocation.{Invocation}
use Rattle.go_state.specs.declared.state.state.End.{End}
use Rattle.go_state.specs.Bound.{AreValues}
use Rattle.go_entries.specs.EntriesSeen.{IsEntered}
use Rattle.go_entries.specs.Leaves.{Leaves, ended_as}

module _ (ts : List Ty) where
  -- a frame comes above the others
  pub put_above : (fs gs : List Frame) (f : Frame) → gs ≡ fs ++ f ∷ [] → stacked (frame_of ts) gs ≡ frame_of ts f ∷ stacked (frame_of ts) fs
  put_above fs gs f e = ap (stacked (frame_of ts)) e ∙ fold-append (λ (rest : List defined.Frame) (x : Frame). frame_of ts x ∷ rest) [] fs (f ∷ [])

  -- a call that was deferred comes before the others
  pub call_above : (is js : List Invocation) (i : Invocation) → js ≡ is ++ i ∷ [] → stacked (invocation_of ts) js ≡ invocation_of ts i ∷ stacked (invocation_of ts) is
  call_above is js i e = ap (stacked (invocation_of ts)) e ∙ fold-append (λ (rest : List defined.Invocation) (x : Invocation). invocation_of ts x ∷ rest) [] is (i ∷ [])

  pub left_with : (e : Option End) (fs : List Frame) (m : Memory) (step : ℕ → defined.State → Option defined.State) (gs : List defined.Frame) → stacked (frame_of ts) fs ≡ gs
      → ((g : ℕ) (s : defined.State) → step g s ≡ Some (ended_as e (with_memory (memory_of ts m) (moved g gs 1 s)))) → Leaves ts (Ok e) fs m step
  left_with e fs m step gs h k = λ g s. k g s ∙ ap (λ (xs : List defined.Frame). Some (ended_as e (with_memory (memory_of ts m) (moved g xs 1 s)))) (sym h)

  -- the same step, said otherwise
  pub leaves_as : (r : Result (Option End) Stop) (fs : List Frame) (m : Memory) (d e : ℕ → defined.State → Option defined.State)
      → ((g : ℕ) (s : defined.State) → d g s ≡ e g s) → Leaves ts r fs m e → Leaves ts r fs m d
  leaves_as (Ok x) fs m d e h k = λ g s. h g s ∙ k g s
  leaves_as (Err stop.NoMemory) fs m d e h k = tt
  leaves_as (Err stop.NoStep) fs m d e h k = λ g s. h g s ∙ k g s
  leaves_as (Err (stop.Panics q u)) fs m d e h k = k

  -- what `?` hands on where no frame is made, and where results are none
  pub no_frame : (r : Result (Option End) Stop) (x : Stop) (fs : List Frame) (m n : Memory) (o : Option calls.Entered) (step : ℕ → defined.State → Option defined.State)
      → IsErrAnd r (λ y. y ≡ x) → IsEntered ts (Err x) n o → (o ≡ None → (g : ℕ) (s : defined.State) → step g s ≡ None) → Leaves ts r fs m step
  no_frame (Ok a) x fs m n o step i h k = absurd i
  no_frame (Err stop.NoMemory) x fs m n o step i h k = tt
  no_frame (Err stop.NoStep) x fs m n o step i h k = k (subst (λ (z : Stop). IsEntered ts (Err z) n o) (sym i) h)
  no_frame (Err (stop.Panics q u)) x fs m n o step i h k = subst (λ (z : Stop). IsEntered ts (Err z) n o) (sym i) h

  pub no_values : (r : Result (Option End) Stop) (x : Stop) (fs : List Frame) (m : Memory) (o : ℕ → Option (List Value)) (step : ℕ → defined.State → Option defined.State)
      → IsErrAnd r (λ y. y ≡ x) → ((g : ℕ) → AreValues ts (Err x) (o g)) → ((g : ℕ) (s : defined.State) → o g ≡ None → step g s ≡ None) → Leaves ts r fs m step
  no_values (Ok a) x fs m o step i h k = absurd i
  no_values (Err stop.NoMemory) x fs m o step i h k = tt
  no_values (Err stop.NoStep) x fs m o step i h k = λ g s. k g s (subst (λ (z : Stop). AreValues ts (Err z) (o g)) (sym i) (h g))
  no_values (Err (stop.Panics q u)) x fs m o step i h k = subst (λ (z : Stop). AreValues ts (Err z) (o 0)) (sym i) (h 0)

-- a deferred call that panics does what a call does
pub deferred_as_called : (p : CoreProgram) (g : ℕ) (v : core.Scalar) (below : List defined.Frame) (s : defined.State)
    → removed_panicking p g defined.deferred v below s ≡ removed_panicking p g defined.called v below s
deferred_as_called p g v [] s = refl
deferred_as_called p g v (f ∷ below) s = refl

pub none_there : {A : Type 0} (xs : List A) → length xs ≡ 0 → xs ≡ []
none_there {A} [] h = refl
none_there {A} (x ∷ xs) h = absurd (omega (arith, h))

-- where nothing was on top
pub none_left : {A : Type 0} (xs ys : List A) → xs ≡ [] → xs ≡ ys ++ [] → ys ≡ []
none_left {A} xs ys e h = sym (append-nil ys) ∙ sym h ∙ e
