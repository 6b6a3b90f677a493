-- What types hold by value, from what their parts hold.
use Rattle.std.proofs.Common.{◌⊎◌, inl, inr, refl, sym, ap, ◌∙◌, subst, arith}
use Rattle.std.specs.Prelude.{◌≡◌, ◌<◌, ◌≤◌, ◌+◌, ◌*◌, max, ℕ, zero, suc, Bool, true, false, ◌&&◌, List, [], ◌∷◌, ◌++◌, length, map, take, Option, Some, None, slice_get, slice_set}
use Rattle.std.specs.Cmp.Derive.{both_true}
use Rattle.std.proofs.Math.Nat.{zero-mul, suc-mul, add_comm}
use Rattle.std.proofs.lemmas.List.{length-map}
use Rattle.std.proofs.Math.Seq.{take-append_seam}
use Rattle.go_type.specs.Tree as ty
use Rattle.go_type.specs.Tree.{Ty, Fields}
use Rattle.go_type.specs.Named.{NamedTy, named_of}
use Rattle.go_type.specs.Levels.{tree_of}
use Rattle.go_type.specs.Table.{places, names, name_count}
use Rattle.go_type.specs.Underlying.{under_at}
use Rattle.go_type.specs.Parts.{is_leaf, compares, is_key}
use Rattle.go_type.specs.declared.types.TypeId.{TypeId}
use Rattle.go_type.specs.declared.table.TypeTable.{TypeTable}
use Rattle.go_core.specs.Layout.{Shape, size, parts_size, copies, at_least_one, shape_with, parts_with, shape_under, name_shape, holds_with, all_with, holds_under, name_holds}
use Rattle.go_core.specs.SoundNode.{every}
use Rattle.go_sound_parts.specs.declared.measures.Measure.{Measure}
use Rattle.go_sound_parts.specs.Measures.{IsMeasured, AreMeasured, AreKnown}

-- ---- a type that holds no others by value

leaf_held : (test : Ty → Bool) (f : ℕ → Bool) (t : Ty) → is_leaf t ≡ true → holds_with test f t ≡ test t
leaf_held test f (ty.array n t) h = absurd (cc)
leaf_held test f (ty.struct fs) h = absurd (cc)
leaf_held test f (ty.named id) h = absurd (cc)
leaf_held test f _ h = refl

leaf_size : (f : ℕ → Shape) (t : Ty) → is_leaf t ≡ true → size (shape_with f t) ≡ 1
leaf_size f (ty.array n t) h = absurd (cc)
leaf_size f (ty.struct fs) h = absurd (cc)
leaf_size f (ty.named id) h = absurd (cc)
leaf_size f _ h = refl

pub leaf_measured : (ns : List NamedTy) (t : Ty) (c k : Bool) → is_leaf t ≡ true → (c ≡ true → compares t ≡ true) → (k ≡ true → is_key t ≡ true)
    → IsMeasured ns t (record { names = 0; scalars = 1; compares = c; is_key = k })
leaf_measured ns t c k h f g = record {
  finite = λ left l. leaf_held every (name_holds every ns left) t h;
  scalars_fit = λ left l. leaf_size (name_shape ns left) t h;
  compares_fit = λ e left l. leaf_held compares (name_holds compares ns left) t h ∙ f e;
  key_fits = λ e left l. leaf_held is_key (name_holds is_key ns left) t h ∙ g e;
}

-- ---- arrays

copies_size : (n : ℕ) (s : Shape) → parts_size (copies n s) ≡ n * size s
copies_size zero s = sym (zero-mul (size s))
copies_size (suc n) s = ap (λ (x : ℕ). size s + x) (copies_size n s) ∙ add_comm (size s) (n * size s) ∙ sym (suc-mul n (size s))

pub array_measured : (ns : List NamedTy) (t : Ty) (m : Measure) (n s : ℕ) → s ≡ at_least_one (n * m.scalars) → IsMeasured ns t m
    → IsMeasured ns (ty.array n t) (record { names = m.names; scalars = s; compares = m.compares; is_key = m.is_key })
array_measured ns t m n s e h = record {
  finite = h.finite;
  scalars_fit = λ left l. ap at_least_one (copies_size n (shape_with (name_shape ns left) t) ∙ ap (λ (x : ℕ). n * x) (h.scalars_fit left l)) ∙ sym e;
  compares_fit = h.compares_fit;
  key_fits = h.key_fits;
}

-- ---- named types

through : (names : ℕ) (P : ℕ → Type 0) → ((k : ℕ) → names ≤ k → P (suc k)) → (left : ℕ) → names + 1 ≤ left → P left
through names P f zero l = absurd (omega arith)
through names P f (suc k) l = f k (omega arith)

named_held : (ns : List NamedTy) (test : Ty → Bool) (id : ℕ) (t : Ty) (names : ℕ) → under_at ns id ≡ Some t
    → ((left : ℕ) → names ≤ left → holds_with test (name_holds test ns left) t ≡ true) → (left : ℕ) → names + 1 ≤ left → name_holds test ns left id ≡ true
named_held ns test id t names e h =
    through names (λ (left : ℕ). name_holds test ns left id ≡ true) (λ k l. ap (holds_under (holds_with test (name_holds test ns k))) e ∙ h k l)

named_size : (ns : List NamedTy) (id : ℕ) (t : Ty) (names n : ℕ) → under_at ns id ≡ Some t
    → ((left : ℕ) → names ≤ left → size (shape_with (name_shape ns left) t) ≡ n) → (left : ℕ) → names + 1 ≤ left → size (name_shape ns left id) ≡ n
named_size ns id t names n e h =
    through names (λ (left : ℕ). size (name_shape ns left id) ≡ n) (λ k l. ap (λ (o : Option Ty). size (shape_under (shape_with (name_shape ns k)) o)) e ∙ h k l)

pub named_measured : (ns : List NamedTy) (id : ℕ) (t : Ty) (m : Measure) (n : ℕ) → n ≡ m.names + 1 → under_at ns id ≡ Some t → IsMeasured ns t m
    → IsMeasured ns (ty.named id) (record { names = n; scalars = m.scalars; compares = m.compares; is_key = m.is_key })
named_measured ns id t m n s e h = subst (λ (k : ℕ). IsMeasured ns (ty.named id) (record { names = k; scalars = m.scalars; compares = m.compares; is_key = m.is_key })) (sym s) (record {
  finite = named_held ns every id t m.names e h.finite;
  scalars_fit = named_size ns id t m.names m.scalars e h.scalars_fit;
  compares_fit = λ c. named_held ns compares id t m.names e (h.compares_fit c);
  key_fits = λ c. named_held ns is_key id t m.names e (h.key_fits c);
})

-- a named type is whole where what it stands for is, seen through fewer names
pub set_held : (ns : List NamedTy) (id : ℕ) (t : Ty) (m : Measure) → under_at ns id ≡ Some t → IsMeasured ns t m → m.names < length ns → name_holds every ns (length ns) id ≡ true
set_held ns id t m e h l = named_held ns every id t m.names e h.finite (length ns) (omega arith)

-- ---- structs

pub none_measured : (ns : List NamedTy) → AreMeasured ns ty.no_fields (record { names = 0; scalars = 0; compares = true; is_key = true })
none_measured ns = record { finite = λ left l. refl; scalars_fit = λ left l. refl; compares_fit = λ e left l. refl; key_fits = λ e left l. refl }

pub joined_measured : (ns : List NamedTy) (first rest r : Measure) → r.names ≡ max first.names rest.names → r.scalars ≡ first.scalars + rest.scalars
    → (r.compares ≡ true → (first.compares ≡ true) × (rest.compares ≡ true)) → (r.is_key ≡ true → (first.is_key ≡ true) × (rest.is_key ≡ true))
    → (name home tag : List ℕ) (t : Ty) (embedded : Bool) (fs : Fields) → IsMeasured ns t first → AreMeasured ns fs rest → AreMeasured ns (ty.more_fields name home t embedded tag fs) r
joined_measured ns first rest r n s f g name home tag t embedded fs h k = record {
  finite = λ left l. both_true (h.finite left (omega arith)) (k.finite left (omega arith));
  scalars_fit =
      λ left l.
      ap (λ (x : ℕ). x + parts_size (parts_with (name_shape ns left) fs)) (h.scalars_fit left (omega arith))
      ∙ ap (λ (x : ℕ). first.scalars + x) (k.scalars_fit left (omega arith)) ∙ sym s;
  compares_fit = λ e left l. both_true (h.compares_fit (f e).0 left (omega arith)) (k.compares_fit (f e).1 left (omega arith));
  key_fits = λ e left l. both_true (h.key_fits (g e).0 left (omega arith)) (k.key_fits (g e).1 left (omega arith));
}

pub struct_measured : (ns : List NamedTy) (fs : Fields) (m : Measure) (s : ℕ) → s ≡ at_least_one m.scalars → AreMeasured ns fs m
    → IsMeasured ns (ty.struct fs) (record { names = m.names; scalars = s; compares = m.compares; is_key = m.is_key })
struct_measured ns fs m s e h = record {
  finite = h.finite;
  scalars_fit = λ left l. ap at_least_one (h.scalars_fit left l) ∙ sym e;
  compares_fit = h.compares_fit;
  key_fits = h.key_fits;
}

-- ---- tables

some_one : {A : Type 0} (x y : A) → Some x ≡ Some y → x ≡ y
some_one x y h = cc

next : {X : Type 0} (k i : ℕ) (x y : X) (P : Type 0) → ((k ≡ i) × (x ≡ y)) ⊎ P → ((suc k ≡ suc i) × (x ≡ y)) ⊎ P
next k i x y P (inl h) = inl (ap suc h.0, h.1)
next k i x y P (inr h) = inr h

pub got_set : {X : Type 0} (xs : List X) (i k : ℕ) (x y : X) → slice_get (slice_set xs i x) k ≡ Some y → ((k ≡ i) × (x ≡ y)) ⊎ (slice_get xs k ≡ Some y)
got_set [] i k x y h = inr h
got_set (z ∷ zs) zero zero x y h = inl (refl, some_one x y h)
got_set (z ∷ zs) zero (suc k) x y h = inr h
got_set (z ∷ zs) (suc i) zero x y h = inr h
got_set (z ∷ zs) (suc i) (suc k) x y h = next k i x y (slice_get zs k ≡ Some y) (got_set zs i k x y h)

pub got_push : {X : Type 0} (xs : List X) (k : ℕ) (x y : X) → slice_get (xs ++ x ∷ []) k ≡ Some y → (slice_get xs k ≡ Some y) ⊎ ((k ≡ length xs) × (x ≡ y))
got_push [] zero x y h = inr (refl, some_one x y h)
got_push [] (suc k) x y h = inl h
got_push (z ∷ zs) zero x y h = inl h
got_push (z ∷ zs) (suc k) x y h = got_later (got_push zs k x y h)
  where
    got_later : (slice_get zs k ≡ Some y) ⊎ ((k ≡ length zs) × (x ≡ y)) → (slice_get zs k ≡ Some y) ⊎ ((suc k ≡ length (z ∷ zs)) × (x ≡ y))
    got_later (inl g) = inl g
    got_later (inr g) = inr (omega (arith, g.0), g.1)

module _ (ns : List NamedTy) (ts : List Ty) where
  pub known_put : (ms : List (Option Measure)) (i : ℕ) (m : Measure) → AreKnown ns ts ms → IsMeasured ns (tree_of ts (record { 0 = i })) m → AreKnown ns ts (slice_set ms i (Some m))
  known_put ms i m h k t n e = by_place (got_set ms i t.0 (Some m) (Some n) e)
    where
      by_place : ((t.0 ≡ i) × (Some m ≡ Some n)) ⊎ (slice_get ms t.0 ≡ Some (Some n)) → IsMeasured ns (tree_of ts t) n
      by_place (inl g) = subst (λ (x : Measure). IsMeasured ns (tree_of ts t) x) (some_one m n g.1) (subst (λ (j : ℕ). IsMeasured ns (tree_of ts (record { 0 = j })) m) (sym g.0) k)
      by_place (inr g) = h t n g

pub none_known : (ms : List (Option Measure)) → ((k : ℕ) (m : Measure) → slice_get ms k ≡ Some (Some m) → ⊥) → (k : ℕ) (m : Measure) → slice_get (ms ++ None ∷ []) k ≡ Some (Some m) → ⊥
none_known ms h k m e = by_place (got_push ms k None (Some m) e)
  where
    by_place : (slice_get ms k ≡ Some (Some m)) ⊎ ((k ≡ length ms) × (None ≡ Some m)) → ⊥
    by_place (inl g) = h k m g
    by_place (inr g) = let e2 : None ≡ Some m = g.1 in cc

-- what is known still is where nothing is cut away
pub known_taken : (ns : List NamedTy) (ts : List Ty) (xs ys : List (Option Measure)) (n : ℕ) → length xs ≡ n → AreKnown ns ts xs → AreKnown ns ts (take n (xs ++ ys))
known_taken ns ts xs ys n e h =
    subst (λ (k : ℕ). AreKnown ns ts (take k (xs ++ ys))) e (subst (λ (zs : List (Option Measure)). AreKnown ns ts zs) (sym (take-append_seam xs ys)) h)

pub count_names : (w : TypeTable) → name_count w ≡ length (names w)
count_names w = sym (length-map w.names.items (named_of (places w)))
