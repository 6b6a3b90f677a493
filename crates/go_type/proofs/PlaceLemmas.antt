-- Sorted lists of methods.
use Rattle.std.proofs.Common.{◌≡◌, ℕ, zero, suc, Bool, true, false, List, [], ◌∷◌, map, refl, ap, sym, ◌∙◌, subst, inl, inr}
use Rattle.std.specs.Prelude.{◌&&◌, if◌then◌else◌, bytes_eq, insert, slice_get}
use Rattle.std.specs.List.{AllByRecursion}
use Rattle.std.specs.declared.cmp.Ordering.{Ordering}
use Rattle.std.specs.declared.cmp.Ordering.TheVariants.{Less, Equal, Greater}
use Rattle.std.specs.Ordering.{nat_cmp, ordering_reverse, ordering_then, is_lt}
use Rattle.std.specs.Cmp.{IsTotalOrder}
use Rattle.std.specs.Cmp.Lexicographic.{slice_cmp, texts_ties}
use Rattle.std.proofs.lemmas.Cmp.{nat_list_cmp_total, on_total, then_total}
use Rattle.std.proofs.lemmas.Slice.Eq.{bytes_eq-Decides}
use Rattle.std.proofs.Common.{arith}
use Rattle.go_type.specs.Tree.{Ty}
use Rattle.go_type.specs.MethodList.{SpecTy, spec_of, Among, name_cmp, spec_cmp, Ascends}
use Rattle.go_type.specs.Tried.{place_of, is_named}
use Rattle.go_type.specs.declared.types.MethodSpec.{MethodSpec}

pub bytes_one : (x y : List ℕ) → bytes_eq x y ≡ true → x ≡ y
bytes_one x y h = grind (arith, bytes_eq-Decides x y)

pub both : (a b : Bool) → (a && b) ≡ true → (a ≡ true) × (b ≡ true)
both true b h = (refl, h)
both false b h = cc

join : (a b : Bool) → a ≡ true → b ≡ true → (a && b) ≡ true
join true b h k = k
join false b h k = cc

spec_total : IsTotalOrder spec_cmp
spec_total = then_total (on_total (λ (x : SpecTy). x.name) nat_list_cmp_total) (on_total (λ (x : SpecTy). x.package_) nat_list_cmp_total)

tied : (xs ys : List ℕ) → slice_cmp nat_cmp xs ys ≡ Equal → bytes_eq xs ys ≡ true
tied xs ys h = texts_ties xs ys ∙ ap is_equal h
  where
    is_equal : Ordering → Bool
    is_equal Less = false
    is_equal Equal = true
    is_equal Greater = false

-- names that are neither before nor after one another are one
one_name : (m x : MethodSpec) → name_cmp m.name m.package x.name x.package ≡ Equal → (bytes_eq m.name x.name && bytes_eq m.package x.package) ≡ true
one_name m x h = by (slice_cmp nat_cmp m.name x.name) refl h
  where
    by : (o : Ordering) → slice_cmp nat_cmp m.name x.name ≡ o → name_cmp m.name m.package x.name x.package ≡ Equal → (bytes_eq m.name x.name && bytes_eq m.package x.package) ≡ true
    by Less e h = let f : name_cmp m.name m.package x.name x.package ≡ Less = ap (λ (o : Ordering). ordering_then o (slice_cmp nat_cmp m.package x.package)) e in cc
    by Greater e h = let f : name_cmp m.name m.package x.name x.package ≡ Greater = ap (λ (o : Ordering). ordering_then o (slice_cmp nat_cmp m.package x.package)) e in cc
    by Equal e h =
        let f : name_cmp m.name m.package x.name x.package ≡ slice_cmp nat_cmp m.package x.package = ap (λ (o : Ordering). ordering_then o (slice_cmp nat_cmp m.package x.package)) e in
        join (bytes_eq m.name x.name) (bytes_eq m.package x.package) (tied m.name x.name e) (tied m.package x.package (sym f ∙ h))

module _ (ts : List Ty) (x : MethodSpec) where
  pub all_inserted : (P : SpecTy → Type 0) (ms : List MethodSpec) (k : ℕ) → AllByRecursion P (map (spec_of ts) ms) → P (spec_of ts x) → AllByRecursion P (map (spec_of ts) (insert ms k x))
  all_inserted P [] zero a p = (p, tt)
  all_inserted P [] (suc k) a p = (p, tt)
  all_inserted P (m ∷ ms) zero a p = (p, a)
  all_inserted P (m ∷ ms) (suc k) a p = (a.0, all_inserted P ms k a.1 p)

  pub below_inserted : (P : MethodSpec → Type 0) (ms : List MethodSpec) (k : ℕ) → AllByRecursion P ms → P x → AllByRecursion P (insert ms k x)
  below_inserted P [] zero a p = (p, tt)
  below_inserted P [] (suc k) a p = (p, tt)
  below_inserted P (m ∷ ms) zero a p = (p, a)
  below_inserted P (m ∷ ms) (suc k) a p = (a.0, below_inserted P ms k a.1 p)

  pub kept_inserted : (ms : List MethodSpec) (k : ℕ) (y : SpecTy) → Among (map (spec_of ts) ms) y → Among (map (spec_of ts) (insert ms k x)) y
  kept_inserted [] k y a = absurd a
  kept_inserted (m ∷ ms) zero y a = inr a
  kept_inserted (m ∷ ms) (suc k) y (inl e) = inl e
  kept_inserted (m ∷ ms) (suc k) y (inr a) = inr (kept_inserted ms k y a)

  pub is_inserted : (ms : List MethodSpec) (k : ℕ) → Among (map (spec_of ts) (insert ms k x)) (spec_of ts x)
  is_inserted [] zero = inl refl
  is_inserted [] (suc k) = inl refl
  is_inserted (m ∷ ms) zero = inl refl
  is_inserted (m ∷ ms) (suc k) = inr (is_inserted ms k)

  before_all : (y : SpecTy) (ms : List MethodSpec) → spec_cmp (spec_of ts x) y ≡ Less → AllByRecursion (λ (z : SpecTy). spec_cmp y z ≡ Less) (map (spec_of ts) ms) → AllByRecursion (λ (z : SpecTy). spec_cmp (spec_of ts x) z ≡ Less) (map (spec_of ts) ms)
  before_all y [] l a = tt
  before_all y (m ∷ ms) l a = (spec_total.trans (spec_of ts x) y (spec_of ts m) l a.0, before_all y ms l a.1)

  turned : (m : MethodSpec) → name_cmp m.name m.package x.name x.package ≡ Greater → spec_cmp (spec_of ts x) (spec_of ts m) ≡ Less
  turned m e = spec_total.antisymm (spec_of ts x) (spec_of ts m) ∙ ap ordering_reverse e

  abbrev Placed : (m : MethodSpec) (ms : List MethodSpec) → ℕ → Type 0
  Placed m ms k = is_named x.name x.package (slice_get (m ∷ ms) k) ≡ false → Ascends (map (spec_of ts) (m ∷ ms)) → Ascends (map (spec_of ts) (insert (m ∷ ms) k x))

  -- where no method has the name, the list with it stays sorted
  pub sorted_inserted : (ms : List MethodSpec) → is_named x.name x.package (slice_get ms (place_of x.name x.package ms)) ≡ false → Ascends (map (spec_of ts) ms) → Ascends (map (spec_of ts) (insert ms (place_of x.name x.package ms) x))
  sorted_inserted [] = λ n a. (tt, tt)
  sorted_inserted (m ∷ ms) = by (sorted_inserted ms) (name_cmp m.name m.package x.name x.package) refl
    where
      place : Ordering → ℕ
      place o = if is_lt o then suc (place_of x.name x.package ms) else 0

      by : (is_named x.name x.package (slice_get ms (place_of x.name x.package ms)) ≡ false → Ascends (map (spec_of ts) ms) → Ascends (map (spec_of ts) (insert ms (place_of x.name x.package ms) x))) → (o : Ordering) → name_cmp m.name m.package x.name x.package ≡ o → Placed m ms (place_of x.name x.package (m ∷ ms))
      by rest Less e = subst (Placed m ms) (sym (ap place e)) (λ n a. (all_inserted (λ (y : SpecTy). spec_cmp (spec_of ts m) y ≡ Less) ms (place_of x.name x.package ms) a.0 e, rest n a.1))
      by rest Equal e = subst (Placed m ms) (sym (ap place e)) (λ n a. let f = one_name m x e in cc)
      by rest Greater e = subst (Placed m ms) (sym (ap place e)) (λ n a. let l = turned m e in ((l, before_all (spec_of ts m) ms l a.0), a))

module _ (ts : List Ty) (name package_ : List ℕ) (P : SpecTy → Type 0) where
  -- the method at a place that has the name
  pub named_at : (ms : List MethodSpec) (k : ℕ) → is_named name package_ (slice_get ms k) ≡ true → AllByRecursion P (map (spec_of ts) ms) → (m : MethodSpec) × (m.name ≡ name) × (m.package ≡ package_) × Among (map (spec_of ts) ms) (spec_of ts m) × P (spec_of ts m)
  named_at [] k n a = cc
  named_at (m ∷ ms) zero n a = let h = both (bytes_eq m.name name) (bytes_eq m.package package_) n in (m, bytes_one m.name name h.0, bytes_one m.package package_ h.1, inl refl, a.0)
  named_at (m ∷ ms) (suc k) n a = let h = named_at ms k n a.1 in (h.0, h.1, h.2, inr h.3, h.4)
