-- What a set answers after one more came in.
use Rattle.std.proofs.Common.{arith, ◌≡◌, ℕ, ◌∙◌, refl, sym, ap, subst, List, [], ◌∷◌, ◌++◌, Bool, true, false, cond, ◌||◌, bytes_eq, true≢false, Option, Some, None, is_some}
use Rattle.std.specs.Prelude.{◌==◌, ◌&&◌}
use Rattle.std.specs.Borrow.{Bor}
use Rattle.std.specs.List.{list_any}
use Rattle.std.proofs.lemmas.Slice.Eq.{bytes_eq-Decides}
use Rattle.std.proofs.lemmas.Bool.Decides.{nat_tests}
use Rattle.std.proofs.lemmas.List.Folds.{list_any-append}
use Rattle.std.specs.Map.{lookup}
use Rattle.indexmap.specs.IndexMap.{insert_entry}
use Rattle.indexmap.specs.IndexSet.{insert_key}
use Rattle.gj_base.specs.declared.place.Place.{Place}
use Rattle.go_walk.specs.SetsHas.{same_place, with_number}

-- names that the test finds equal are equal
pub same_name : (x y : List ℕ) → bytes_eq x y ≡ true → x ≡ y
same_name x y h = grind (arith, bytes_eq-Decides)

pub own_name : (x : List ℕ) → bytes_eq x x ≡ true
own_name x = grind (arith, bytes_eq-Decides)

pub same_spot : (p q : Place) → same_place p q ≡ true → p ≡ q
same_spot p q h =
    let file : p.file ≡ q.file = grind (arith, nat_tests) in
    let offset : p.offset ≡ q.offset = grind (arith, nat_tests) in
    λ j. record { file = file j; offset = offset j }

-- what is there already
there : (b c : Bool) → (c ≡ true → b ≡ true) → b ≡ (c || b)
there b true h = h refl
there b false h = refl

-- what comes last
last : (b c : Bool) → (b || (c || false)) ≡ (c || b)
last true true = refl
last true false = refl
last false true = refl
last false false = refl

module _ {K : Type 0} (eq : K → K → Bool) (test : K → Bool) (k : K) (same : test k ≡ true → (ks : List K) → list_any (eq k) ks ≡ list_any test ks) where
  pub inserted : (ks : List K) → list_any test (insert_key eq ks k) ≡ (test k || list_any test ks)
  inserted ks = by (list_any (eq k) ks) refl
    where
      by : (b : Bool) → list_any (eq k) ks ≡ b → list_any test (cond b ks (ks ++ k ∷ [])) ≡ (test k || list_any test ks)
      by true p = there (list_any test ks) (test k) (λ h. sym (same h ks) ∙ p)
      by false p = list_any-append test ks (k ∷ []) ∙ last (list_any test ks) (test k)

pub name_inserted : (keys : List (Bor (List ℕ))) (k : Bor (List ℕ)) (y : List ℕ)
    → list_any (λ j. bytes_eq y j.now) (insert_key (λ a b. bytes_eq a.now b.now) keys k) ≡ (bytes_eq y k.now || list_any (λ j. bytes_eq y j.now) keys)
name_inserted keys k y =
    inserted (λ (a b : Bor (List ℕ)). bytes_eq a.now b.now) (λ j. bytes_eq y j.now) k (λ h ks. ap (λ (x : List ℕ). list_any (λ (j : Bor (List ℕ)). bytes_eq x j.now) ks) (sym (same_name y k.now h))) keys

pub place_inserted : (keys : List Place) (k q : Place) → list_any (same_place q) (insert_key same_place keys k) ≡ (same_place q k || list_any (same_place q) keys)
place_inserted keys k q = inserted same_place (same_place q) k (λ h ks. ap (λ (p : Place). list_any (same_place p) ks) (sym (same_spot q k h))) keys

-- ---- numbers

abbrev numbered : List ℕ → List (Bor (List ℕ) × ℕ) → Option ℕ
numbered y es = lookup (λ (k : Bor (List ℕ)). bytes_eq y k.now) es

-- a name that is new goes last
pub number_inserted : (es : List (Bor (List ℕ) × ℕ)) (k : Bor (List ℕ)) (n : ℕ) (y : List ℕ) → numbered k.now es ≡ None
    → numbered y (insert_entry (λ (a b : Bor (List ℕ)). bytes_eq a.now b.now) es k n) ≡ with_number k.now n (numbered y es) y
number_inserted [] k n y h = refl
number_inserted (e ∷ es) k n y h = by (bytes_eq k.now e.0.now) h (number_inserted es k n y)
  where
    past : (b : Bool) → numbered y (insert_entry (λ (a b : Bor (List ℕ)). bytes_eq a.now b.now) es k n) ≡ with_number k.now n (numbered y es) y
        → cond b (Some e.1) (numbered y (insert_entry (λ (a b : Bor (List ℕ)). bytes_eq a.now b.now) es k n)) ≡ with_number k.now n (cond b (Some e.1) (numbered y es)) y
    past true p = refl
    past false p = p

    by : (b : Bool) → cond b (Some e.1) (numbered k.now es) ≡ None
        → (numbered k.now es ≡ None → numbered y (insert_entry (λ (a b : Bor (List ℕ)). bytes_eq a.now b.now) es k n) ≡ with_number k.now n (numbered y es) y)
        → numbered y (cond b ((e.0, n) ∷ es) (e ∷ insert_entry (λ (a b : Bor (List ℕ)). bytes_eq a.now b.now) es k n)) ≡ with_number k.now n (numbered y (e ∷ es)) y
    by true p rest = absurd (cc)
    by false p rest = past (bytes_eq y e.0.now) (rest p)

pub none_of : {A : Type 0} (o : Option A) → is_some o ≡ false → o ≡ None
none_of None h = refl
none_of (Some a) h = absurd (true≢false h)
