-- Writes to the places of a list.
use Rattle.std.proofs.Common.{◌≡◌, refl, ap, ℕ, zero, suc, List, [], ◌∷◌, arith}
use Rattle.std.specs.Prelude.{Some, slice_get, slice_set, ◌≢◌, length, ◌<◌}

module _ {A : Type 0} where
  pub get_other : (xs : List A) (i j : ℕ) (x : A) → i ≢ j → slice_get (slice_set xs i x) j ≡ slice_get xs j
  get_other [] i j x d = refl
  get_other (y ∷ ys) zero zero x d = absurd (d refl)
  get_other (y ∷ ys) zero (suc j) x d = refl
  get_other (y ∷ ys) (suc i) zero x d = refl
  get_other (y ∷ ys) (suc i) (suc j) x d = get_other ys i j x (λ e. d (ap suc e))

  pub get_written : (xs : List A) (i : ℕ) (x : A) → i < length xs → slice_get (slice_set xs i x) i ≡ Some x
  get_written [] i x h = absurd (omega arith)
  get_written (y ∷ ys) zero x h = refl
  get_written (y ∷ ys) (suc i) x h = get_written ys i x (omega arith)

  pub set_twice : (xs : List A) (i : ℕ) (x y : A) → slice_set (slice_set xs i x) i y ≡ slice_set xs i y
  set_twice [] i x y = refl
  set_twice (z ∷ zs) zero x y = refl
  set_twice (z ∷ zs) (suc i) x y = ap (λ (us : List A). z ∷ us) (set_twice zs i x y)

  pub set_apart : (xs : List A) (i j : ℕ) (x y : A) → i ≢ j → slice_set (slice_set xs i x) j y ≡ slice_set (slice_set xs j y) i x
  set_apart [] i j x y d = refl
  set_apart (z ∷ zs) zero zero x y d = absurd (d refl)
  set_apart (z ∷ zs) zero (suc j) x y d = refl
  set_apart (z ∷ zs) (suc i) zero x y d = refl
  set_apart (z ∷ zs) (suc i) (suc j) x y d = ap (λ (us : List A). z ∷ us) (set_apart zs i j x y (λ e. d (ap suc e)))
