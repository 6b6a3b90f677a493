-- What `?` hands on, and what goes on, where a part of a step is found.
use Rattle.std.proofs.Common.{◌≡◌, ◌∙◌, sym, subst, List, ℕ, ℤ}
use Rattle.std.specs.Prelude.{Result, Ok, Err, IsErrAnd}
use Rattle.go_type.specs.Tree.{Ty}
use Rattle.go_core.specs.Memory.{Value}
use Rattle.go_core.specs.Did.{Did}
use Rattle.go_values.specs.OperatorsSeen.{Found, Stops}
use Rattle.go_values.specs.declared.operators.did.Stop.{Stop}
use Rattle.go_slices.specs.SlicesFound.{BoundFound, PartFound, ElementsFound}
use Rattle.go_slices.specs.declared.slices.append.Elements.{Elements}
use Rattle.go_slices.specs.declared.slices.slicing.Bound.{Bound}
use Rattle.go_slices.specs.declared.slices.slicing.Part.{Part}
use Rattle.go_slices.proofs.Steps.{stops}

pub found_stopped : {A B : Type 0} (seen : A → B) (r : Result A Stop) (x : Stop) (g : (B → Did) → Did) → IsErrAnd r (λ y. y ≡ x) → ((f : B → Did) → Stops x (g f)) → Found seen r g
found_stopped {A} {B} seen (Ok a) x g i h = absurd i
found_stopped {A} {B} seen (Err y) x g i h = λ f. subst (λ (z : Stop). Stops z (g f)) (sym i) (h f)

pub bound_stopped : (ts : List Ty) (r : Result Bound Stop) (x : Stop) (g : (ℤ → List Value → Did) → Did) → IsErrAnd r (λ y. y ≡ x) → ((f : ℤ → List Value → Did) → Stops x (g f)) → BoundFound ts r g
bound_stopped ts (Ok a) x g i h = absurd i
bound_stopped ts (Err y) x g i h = λ f. subst (λ (z : Stop). Stops z (g f)) (sym i) (h f)

pub part_stopped : (r : Result Part Stop) (x : Stop) (g : (ℕ → ℕ → ℕ → Did) → Did) → IsErrAnd r (λ y. y ≡ x) → ((f : ℕ → ℕ → ℕ → Did) → Stops x (g f)) → PartFound r g
part_stopped (Ok a) x g i h = absurd i
part_stopped (Err y) x g i h = λ f. subst (λ (z : Stop). Stops z (g f)) (sym i) (h f)

pub part_same : (r : Result Part Stop) (g h : (ℕ → ℕ → ℕ → Did) → Did) → ((f : ℕ → ℕ → ℕ → Did) → g f ≡ h f) → PartFound r h → PartFound r g
part_same (Ok p) g h e k = λ f. e f ∙ k f
part_same (Err y) g h e k = λ f. stops y (g f) (h f) (e f) (k f)

pub elements_same : (ts : List Ty) (r : Result Elements Stop) (g h : (Value → ℕ → Did) → Did) → ((f : Value → ℕ → Did) → g f ≡ h f) → ElementsFound ts r h → ElementsFound ts r g
elements_same ts (Ok p) g h e k = λ f. e f ∙ k f
elements_same ts (Err y) g h e k = λ f. stops y (g f) (h f) (e f) (k f)
