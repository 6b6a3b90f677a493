-- Names in byte order: the members of such a list determine it.
use Rattle.std.proofs.Common.{◌≡◌, ◌⊎◌, List, [], ◌∷◌, ℕ, zero, suc, refl, sym, ap, subst, ◌∙◌, arith, inl, inr}
use Rattle.std.specs.Prelude.{Contains, ◌↔◌}
use Rattle.std.specs.List.Sorted.{IsStrictlySortedBy}
use Rattle.std.specs.Ordering.{nat_cmp}
use Rattle.std.specs.declared.cmp.Ordering.TheVariants.{Less}
use Rattle.std.specs.Cmp.Lexicographic.{slice_cmp, nat_list_cmp_total}
use Rattle.std.proofs.lemmas.List.Elements.{All-from_recursion, All-contains}

-- the front is a member
pub at_front : {X : Type 0} (x : X) (xs : List X) → Contains (x ∷ xs) x
at_front x xs = (0, omega arith, refl)

pub further : {X : Type 0} (x : X) (xs : List X) (y : X) → Contains xs y → Contains (x ∷ xs) y
further x xs y there = (suc there.0, omega (arith, there.1), there.2)

-- a member is the front or one of the rest
pub front_or_rest : {X : Type 0} (x : X) (xs : List X) (y : X) → Contains (x ∷ xs) y → (x ≡ y) ⊎ Contains xs y
front_or_rest x xs y (zero, below, is) = inl is
front_or_rest x xs y (suc k, below, is) = inr (k, omega (arith, below), is)

pub in_none : {X : Type 0} (y : X) → Contains [] y → ⊥
in_none y there = omega (arith, there.1)

-- no name comes before one that comes before it
not_both : (a b : List ℕ) → slice_cmp nat_cmp a b ≡ Less → slice_cmp nat_cmp b a ≡ Less → ⊥
not_both a b below above = let turned = nat_list_cmp_total.antisymm a b in cc

not_itself : (a : List ℕ) → slice_cmp nat_cmp a a ≡ Less → ⊥
not_itself a below = not_both a a below below

-- the front comes before the rest
front_first : (x : List ℕ) (xs : List (List ℕ)) (y : List ℕ) → IsStrictlySortedBy (slice_cmp nat_cmp) (x ∷ xs) → Contains xs y → slice_cmp nat_cmp x y ≡ Less
unfolding IsStrictlySortedBy
front_first x xs y rises there = All-contains (λ z. slice_cmp nat_cmp x z ≡ Less) xs y (All-from_recursion (λ z. slice_cmp nat_cmp x z ≡ Less) xs rises.0) there

-- the fronts of two such lists with the same members are the same
same_front : (x : List ℕ) (xs : List (List ℕ)) (y : List ℕ) (ys : List (List ℕ)) → IsStrictlySortedBy (slice_cmp nat_cmp) (x ∷ xs) → IsStrictlySortedBy (slice_cmp nat_cmp) (y ∷ ys)
    → ((name : List ℕ) → Contains (x ∷ xs) name ↔ Contains (y ∷ ys) name) → x ≡ y
same_front x xs y ys rising rising' same = by (front_or_rest y ys x ((same x).0 (at_front x xs))) (front_or_rest x xs y ((same y).1 (at_front y ys)))
  where
    by : (y ≡ x) ⊎ Contains ys x → (x ≡ y) ⊎ Contains xs y → x ≡ y
    by (inl e) b = sym e
    by (inr there) (inl e) = e
    by (inr there) (inr there') = absurd (not_both x y (front_first x xs y rising there') (front_first y ys x rising' there))

-- what is in one of the rests is in the other
rest_in_rest : (x : List ℕ) (xs ys : List (List ℕ)) (name : List ℕ) → IsStrictlySortedBy (slice_cmp nat_cmp) (x ∷ xs) → (Contains (x ∷ xs) name → Contains (x ∷ ys) name) → Contains xs name → Contains ys name
rest_in_rest x xs ys name rising goes there = by (front_or_rest x ys name (goes (further x xs name there)))
  where
    by : (x ≡ name) ⊎ Contains ys name → Contains ys name
    by (inl e) = absurd (not_itself x (subst (λ (z : List ℕ). slice_cmp nat_cmp x z ≡ Less) (sym e) (front_first x xs name rising there)))
    by (inr found) = found

-- two lists in byte order with the same members are the same
pub same_names : (xs ys : List (List ℕ)) → IsStrictlySortedBy (slice_cmp nat_cmp) xs → IsStrictlySortedBy (slice_cmp nat_cmp) ys → ((name : List ℕ) → Contains xs name ↔ Contains ys name) → xs ≡ ys
unfolding IsStrictlySortedBy
same_names [] [] rising rising' same = refl
same_names [] (y ∷ ys) rising rising' same = absurd (in_none y ((same y).1 (at_front y ys)))
same_names (x ∷ xs) [] rising rising' same = absurd (in_none x ((same x).0 (at_front x xs)))
same_names (x ∷ xs) (y ∷ ys) rising rising' same =
    let front : x ≡ y = same_front x xs y ys rising rising' same in
    let rising'' : IsStrictlySortedBy (slice_cmp nat_cmp) (x ∷ ys) = subst (λ (z : List ℕ). IsStrictlySortedBy (slice_cmp nat_cmp) (z ∷ ys)) (sym front) rising' in
    let same' : ((name : List ℕ) → Contains (x ∷ xs) name ↔ Contains (x ∷ ys) name) = subst (λ (z : List ℕ). (name : List ℕ) → Contains (x ∷ xs) name ↔ Contains (z ∷ ys) name) (sym front) same in
    let rest : xs ≡ ys = same_names xs ys rising.1 rising'.1 (λ name. (rest_in_rest x xs ys name rising (same' name).0, rest_in_rest x ys xs name rising'' (same' name).1)) in
    ap (λ (z : List ℕ). z ∷ xs) front ∙ ap (λ (zs : List (List ℕ)). y ∷ zs) rest
