-- Ends that are told, and low bytes.
use Rattle.std.proofs.Common.{◌≡◌, refl, sym, ◌∙◌, ap, subst, arith, length, ℕ, ◌-◌, ◌<◌, ◌≤◌, List, [], ◌∷◌, ◌++◌, length-append}
use Rattle.std.specs.Prelude.{Option, None, Result, Ok, Err, IsErrAnd, ℤ, pos, negsuc}
use Rattle.go_type.specs.Tree.{Ty}
use Rattle.go_core.specs.Arithmetic.{residue}
use Rattle.go_core.specs.CoreTree.{CoreProgram}
use Rattle.go_core.specs.Goroutine as defined
use Rattle.go_core.specs.GoStep as steps
use Rattle.go_core.specs.Memory as core
use Rattle.go_core.specs.Memory.{Value}
use Rattle.go_values.specs.declared.operators.did.Stop.{Stop}
use Rattle.go_state.specs.StateSeen.{frame_of}
use Rattle.go_state.specs.declared.state.frame.Frame.{Frame}
use Rattle.go_state.specs.declared.state.state.End.{End}
use Rattle.go_state.specs.FrameStepsFound.{NoStep}
use Rattle.go_state.specs.Goes.{FrameStep}
use Rattle.go_partners.specs.Tells.{Tells, Prints, with_printed}

pub residue_small : (n : ℤ) → residue 256 n < 256
residue_small (pos n) = omega arith
residue_small (negsuc n) = omega arith

-- how many bytes came after others
pub bytes_more : (old new more : List ℕ) → new ≡ old ++ more → length new - length old ≡ length more
bytes_more old new more e = let k = ap length e in let n = length-append old more in omega (arith, k, n)

pub bytes_kept : (old new more : List ℕ) → new ≡ old ++ more → length old ≤ length new
bytes_kept old new more e = let k = ap length e in let n = length-append old more in omega (arith, k, n)

module _ (ts : List Ty) where
  -- what `?` hands on
  pub told_none : (r : Result End Stop) (x : Stop) (f : Frame) (step : ℕ → List defined.Frame → defined.State → Option defined.State) → IsErrAnd r (λ y. y ≡ x)
      → ((g : ℕ) (below : List defined.Frame) (s : defined.State) → NoStep x (step g below s)) → Tells ts r f step
  told_none (Ok a) x f step i h = absurd i
  told_none (Err y) x f step i h = subst (λ (z : Stop). (g : ℕ) (below : List defined.Frame) (s : defined.State) → NoStep z (step g below s)) (sym i) h

  pub printed_none : (r : Result ℕ Stop) (x : Stop) (f f' : Frame) (old new : List ℕ) (step : FrameStep) → IsErrAnd r (λ y. y ≡ x)
      → ((g : ℕ) (below : List defined.Frame) (s : defined.State) → NoStep x (step g (frame_of ts f) below (with_printed old s))) → Prints ts r f f' old new step
  printed_none (Ok a) x f f' old new step i h = absurd i
  printed_none (Err y) x f f' old new step i h =
      subst (λ (z : Stop). (g : ℕ) (below : List defined.Frame) (s : defined.State) → NoStep z (step g (frame_of ts f) below (with_printed old s))) (sym i) h

  -- the same step, said otherwise
  pub tells_as : (r : Result End Stop) (f : Frame) (d e : ℕ → List defined.Frame → defined.State → Option defined.State)
      → ((g : ℕ) (below : List defined.Frame) (s : defined.State) → d g below s ≡ e g below s) → Tells ts r f e → Tells ts r f d
  tells_as (Ok x) f d e h k = λ g below s. h g below s ∙ k g below s
  tells_as (Err x) f d e h k = λ g below s. subst (λ (o : Option defined.State). NoStep x o) (sym (h g below s)) (k g below s)

-- ends are told with one scalar
module _ (p : CoreProgram) (choices : List ℕ) (free : defined.Move) (g : ℕ) (below : List defined.Frame) (s : defined.State) (f : defined.Frame) where
  many_exited : (x y : core.Scalar) (ys : Value) → steps.exited p choices free g below s (x ∷ y ∷ ys) f ≡ None
  many_exited (core.whole n) y ys = refl
  many_exited x y ys = refl

  pub not_one_exited : (x : Value) → ¬ (length x ≡ 1) → steps.exited p choices free g below s x f ≡ None
  not_one_exited [] h = refl
  not_one_exited (x ∷ []) h = absurd (h refl)
  not_one_exited (x ∷ y ∷ ys) h = many_exited x y ys

  many_failed : (x y : core.Scalar) (ys : Value) → steps.failed_fatally p choices free g below s (x ∷ y ∷ ys) f ≡ None
  many_failed (core.text n) y ys = refl
  many_failed x y ys = refl

  pub not_one_failed : (x : Value) → ¬ (length x ≡ 1) → steps.failed_fatally p choices free g below s x f ≡ None
  not_one_failed [] h = refl
  not_one_failed (x ∷ []) h = absurd (h refl)
  not_one_failed (x ∷ y ∷ ys) h = many_failed x y ys
