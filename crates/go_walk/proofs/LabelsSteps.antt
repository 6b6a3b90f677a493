-- Lists that are gone through by an index.
use Rattle.std.proofs.Common.{arith, ◌≡◌, ◌<◌, ◌≤◌, ◌+◌, ◌-◌, ℕ, zero, suc, ◌∙◌, refl, sym, ap, List, [], ◌∷◌, ◌++◌, Bool, true, false, ◌||◌, length, drop, take, get_or, map}
use Rattle.std.specs.Prelude.{reverse}
use Rattle.std.proofs.Math.Seq.{drop-cons}
use Rattle.std.proofs.lemmas.List.{map-append, reverse-append}

pub next_at : {X : Type 0} (xs : List X) (i : ℕ) (x : X) → i < length xs → x ≡ get_or xs i x → drop i xs ≡ x ∷ drop (i + 1) xs
next_at {X} xs i x h e =
    let one : suc i ≡ i + 1 = omega arith in
    drop-cons xs i x h ∙ ap (λ (y : X). y ∷ drop (suc i) xs) (sym e) ∙ ap (λ (n : ℕ). x ∷ drop n xs) one

pub past : {X : Type 0} (xs : List X) (i : ℕ) → length xs ≤ i → drop i xs ≡ []
past [] zero h = refl
past [] (suc i) h = refl
past (x ∷ xs) zero h = absurd (omega arith)
past (x ∷ xs) (suc i) h = past xs i (omega arith)

pub or_false : (b : Bool) → (b || false) ≡ b
or_false true = refl
or_false false = refl

pub moved_over : (h e r : Bool) → ((e || h) || r) ≡ (h || (e || r))
moved_over true true r = refl
moved_over true false r = refl
moved_over false true r = refl
moved_over false false r = refl

-- ---- from the last one on

front : {X : Type 0} (xs : List X) (i : ℕ) (x : X) → i < length xs → x ≡ get_or xs i x → take (suc i) xs ≡ take i xs ++ x ∷ []
front [] i x h e = absurd (omega arith)
front (y ∷ ys) zero x h e = ap (λ z. z ∷ []) (sym e)
front (y ∷ ys) (suc i) x h e = ap (λ zs. y ∷ zs) (front ys i x (omega arith) e)

module _ {X Y : Type 0} (f : X → Y) where
  -- one more at the end is one more before all
  pub pushed : (xs : List X) (x : X) → reverse (map f (xs ++ x ∷ [])) ≡ f x ∷ reverse (map f xs)
  pushed xs x = ap reverse (map-append f xs (x ∷ [])) ∙ reverse-append (map f xs) (f x ∷ [])

  pub last_of : (i : ℕ) (xs : List X) (x : X) → 0 < i → i ≤ length xs → x ≡ get_or xs (i - 1) x
      → reverse (map f (take i xs)) ≡ f x ∷ reverse (map f (take (i - 1) xs))
  last_of zero xs x k h e = absurd (omega arith)
  last_of (suc i) xs x k h e =
      let less : suc i - 1 ≡ i = omega arith in
      ap (λ (ys : List X). reverse (map f ys)) (front xs i x (omega arith) (e ∙ ap (λ (n : ℕ). get_or xs n x) less))
      ∙ pushed (take i xs) x ∙ ap (λ (n : ℕ). f x ∷ reverse (map f (take n xs))) (sym less)

  pub all_of : (xs : List X) (n : ℕ) → n ≡ length xs → take n xs ≡ xs
  all_of [] zero e = refl
  all_of [] (suc n) e = refl
  all_of (x ∷ xs) zero e = absurd (omega arith)
  all_of (x ∷ xs) (suc n) e = ap (λ (ys : List X). x ∷ ys) (all_of xs n (omega arith))
