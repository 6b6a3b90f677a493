-- An element that goes to the end of a list, and then to the place of one that is taken out.
use Rattle.std.proofs.Common.{◌≡◌, ◌<◌, ◌-◌, ◌++◌, ◌∙◌, refl, ap, arith, ℕ, zero, suc, List, [], ◌∷◌, length, take, slice_set}
use Rattle.std.specs.Prelude.{slice_index_or, swap_remove}

one_more : {X : Type 0} (xs : List X) (x : X) → length (xs ++ x ∷ []) ≡ suc (length xs)
one_more [] x = refl
one_more (y ∷ ys) x = ap suc (one_more ys x)

length_more : {X : Type 0} (xs : List X) (x : X) → length (xs ++ x ∷ []) - 1 ≡ length xs
length_more xs x = omega (arith, one_more xs x)

last_is : {X : Type 0} (xs : List X) (x d : X) → slice_index_or (xs ++ x ∷ []) (length xs) d ≡ x
last_is [] x d = refl
last_is (y ∷ ys) x d = last_is ys x d

set_within : {X : Type 0} (xs : List X) (x b : X) (i : ℕ) → i < length xs → slice_set (xs ++ x ∷ []) i b ≡ slice_set xs i b ++ x ∷ []
set_within [] x b i l = absurd (omega arith)
set_within (y ∷ ys) x b zero l = refl
set_within (y ∷ ys) x b (suc i) l = ap (λ zs. y ∷ zs) (set_within ys x b i (omega arith))

take_set : {X : Type 0} (xs : List X) (x b : X) (i : ℕ) → take (length xs) (slice_set xs i b ++ x ∷ []) ≡ slice_set xs i b
take_set [] x b i = refl
take_set (y ∷ ys) x b zero = ap (λ zs. b ∷ zs) (all ys x)
  where
    all : {X : Type 0} (ys : List X) (x : X) → take (length ys) (ys ++ x ∷ []) ≡ ys
    all [] x = refl
    all (y ∷ ys) x = ap (λ zs. y ∷ zs) (all ys x)
take_set (y ∷ ys) x b (suc i) = ap (λ zs. y ∷ zs) (take_set ys x b i)

pub swapped_in : {X : Type 0} (xs : List X) (x d : X) (i : ℕ) → i < length xs → swap_remove (xs ++ x ∷ []) i d ≡ slice_set xs i x
swapped_in xs x d i l =
    ap (λ (n : ℕ). take n (slice_set (xs ++ x ∷ []) i (slice_index_or (xs ++ x ∷ []) n d))) (length_more xs x)
    ∙ ap (λ b. take (length xs) (slice_set (xs ++ x ∷ []) i b)) (last_is xs x d)
    ∙ ap (take (length xs)) (set_within xs x x i l)
    ∙ take_set xs x x i
