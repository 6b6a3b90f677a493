-- Lists that are gone through by an index.
use Rattle.std.proofs.Common.{arith, ◌≡◌, ◌<◌, ◌≤◌, ◌+◌, ℕ, zero, suc, refl, sym, ap, subst, List, [], ◌∷◌, Some, length, get_or, slice_get, inl, inr, ◌⊎◌}
use Rattle.std.specs.Prelude.{Vec}
use Rattle.std.specs.declared.alloc.Global.{Global}
use Rattle.go_graph.specs.Cycle.{lists}

pub less_or : (a b : ℕ) → (a < b) ⊎ (b ≤ a)
less_or zero zero = inr (omega arith)
less_or zero (suc b) = inl (omega arith)
less_or (suc a) zero = inr (omega arith)
less_or (suc a) (suc b) = elim (less_or a b) [ inl h ↦ inl (omega (arith, h)) | inr h ↦ inr (omega (arith, h)) ]

-- before the next one, or that one
pub before_next : (k i : ℕ) → k < i + 1 → (k < i) ⊎ (k ≡ i)
before_next k i h = elim (less_or k i) [ inl l ↦ inl l | inr g ↦ inr (omega (arith, h, g)) ]

pub get_at : (xs : List ℕ) (i : ℕ) → i < length xs → slice_get xs i ≡ Some (get_or xs i 0)
get_at [] i h = absurd (omega arith)
get_at (y ∷ ys) zero h = refl
get_at (y ∷ ys) (suc i) h = get_at ys i (omega arith)

pub get_within : {X : Type 0} (xs : List X) (i : ℕ) (x : X) → slice_get xs i ≡ Some x → i < length xs
get_within [] i x e = absurd (cc)
get_within (y ∷ ys) zero x e = omega arith
get_within (y ∷ ys) (suc i) x e = let rest : i < length ys = get_within ys i x e in omega arith

pub one_item : {X : Type 0} (xs : List X) (i : ℕ) (x y : X) → slice_get xs i ≡ Some x → slice_get xs i ≡ Some y → x ≡ y
one_item xs i x y e f = cc

-- what holds of the items before an index, and of the next one
pub all_next : (P : ℕ → Type 0) (xs : List ℕ) (i : ℕ) → i < length xs → ((k j : ℕ) → k < i → slice_get xs k ≡ Some j → P j) → P (get_or xs i 0)
    → (k j : ℕ) → k < i + 1 → slice_get xs k ≡ Some j → P j
all_next P xs i h before now k j l s =
    elim (before_next k i l) [
      | inl m ↦ before k j m s
      | inr m ↦ subst P (one_item xs i (get_or xs i 0) j (get_at xs i h) (subst (λ (n : ℕ). slice_get xs n ≡ Some j) m s)) now
    ]

pub all_of : (P : ℕ → Type 0) (xs : List ℕ) (i : ℕ) → length xs ≤ i → ((k j : ℕ) → k < i → slice_get xs k ≡ Some j → P j) → (k j : ℕ) → slice_get xs k ≡ Some j → P j
all_of P xs i h before k j s = let within : k < length xs = get_within xs k j s in before k j (omega arith) s

-- ---- graphs

pub list_at : (vs : List (Vec ℕ Global)) (i : ℕ) (v : Vec ℕ Global) → i < length vs → v ≡ get_or vs i v → get_or (lists vs) i [] ≡ v.items
list_at [] i v h e = absurd (omega arith)
list_at (w ∷ vs) zero v h e = ap (λ (u : Vec ℕ Global). u.items) (sym e)
list_at (w ∷ vs) (suc i) v h e = list_at vs i v (omega arith) e

pub list_past : (vs : List (Vec ℕ Global)) (i : ℕ) → length vs ≤ i → get_or (lists vs) i [] ≡ []
list_past [] i h = refl
list_past (w ∷ vs) zero h = absurd (omega arith)
list_past (w ∷ vs) (suc i) h = list_past vs i (omega arith)

pub length_lists : (vs : List (Vec ℕ Global)) → length (lists vs) ≡ length vs
length_lists [] = refl
length_lists (v ∷ vs) = ap suc (length_lists vs)
