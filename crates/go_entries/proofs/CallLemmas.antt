-- What is called, by the value that comes first.
use Rattle.std.proofs.Common.{◌≡◌, refl, List, [], ◌∷◌, ℕ, length}
use Rattle.go_core.specs.CoreTree.{CoreProgram}
use Rattle.go_core.specs.Memory as core
use Rattle.go_core.specs.Memory.{Value}
use Rattle.go_core.specs.Goroutine.{Place, the_value, the_dynamic}
use Rattle.go_core.specs.Calls.{resolved, unresolved}

module _ (p : CoreProgram) (at : List Place) (vs : List Value) where
  many_values : (x y : core.Scalar) (ys : Value) → unresolved ≡ resolved p the_value at ((x ∷ y ∷ ys) ∷ vs)
  many_values (core.function func bases) y ys = refl
  many_values x y ys = refl

  pub no_value : (v : Value) → ¬ (length v ≡ 1) → unresolved ≡ resolved p the_value at (v ∷ vs)
  no_value [] h = refl
  no_value (x ∷ []) h = absurd (h refl)
  no_value (x ∷ y ∷ ys) h = many_values x y ys

  module _ (name package_ : List ℕ) where
    many_dynamic : (x y : core.Scalar) (ys : Value) → unresolved ≡ resolved p (the_dynamic name package_) at ((x ∷ y ∷ ys) ∷ vs)
    many_dynamic (core.function func bases) y ys = refl
    many_dynamic x y ys = refl

    pub no_dynamic : (v : Value) → ¬ (length v ≡ 1) → unresolved ≡ resolved p (the_dynamic name package_) at (v ∷ vs)
    no_dynamic [] h = refl
    no_dynamic (x ∷ []) h = absurd (h refl)
    no_dynamic (x ∷ y ∷ ys) h = many_dynamic x y ys
