-- What holds of the parts of a type, by computing and by derivation.
use Rattle.std.proofs.Common.{◌≡◌, ℕ, zero, suc, ◌+◌, ◌-◌, ◌*◌, ◌<◌, ◌≤◌, max, min, Bool, true, false, List, Option, Some, None, refl, ap, sym, ◌∙◌, subst, arith, inl, inr}
use Rattle.std.specs.Prelude.{IsTrue, ◌↔◌, ◌&&◌, ◌⊎◌}
use Rattle.std.proofs.lemmas.Bool.{cases_lt}
use Rattle.go_type.specs.Tree.{Ty, Fields, bool, str, int, nil, untyped, array, slice, struct, pointer, func, interface, mapping, chan, named, tuple, no_fields, more_fields}
use Rattle.go_type.specs.Named.{NamedTy}
use Rattle.go_type.specs.Underlying.{under_at}
use Rattle.go_type.specs.Parts.{HoldsOfParts, of_leaf, of_array, of_struct, of_named, HoldsOfFields, of_none, of_more, each_field, if_under, holds_at, holds_within, every, HasSize, one_scalar, elements, fields, stands_for, FieldsHaveSize, no_field, one_more, sum_fields, under_size, size_at, size_within}

pub within_none : (test : Ty → Bool) (ns : List NamedTy) (n : ℕ) (t : Ty) → n ≡ 0 → false ≡ holds_within test ns n t
unfolding holds_within
within_none test ns zero t e = refl
within_none test ns (suc n) t e = absurd (omega arith)

pub within_step : (test : Ty → Bool) (ns : List NamedTy) (n : ℕ) (t : Ty) → (n ≡ 0 → ⊥) → holds_at test ns (holds_within test ns (n - 1)) t ≡ holds_within test ns n t
unfolding holds_within
within_step test ns zero t h = absurd (h refl)
within_step test ns (suc n) t h = ap (λ (k : ℕ). holds_at test ns (holds_within test ns k) t) (omega arith)

-- ---- derivations

both : (a b : Bool) → (a && b) ≡ true → (a ≡ true) × (b ≡ true)
both true b h = (refl, h)
both false b h = cc

join : (a b : Bool) → a ≡ true → b ≡ true → (a && b) ≡ true
join true b h k = k
join false b h k = cc

module _ (test : Ty → Bool) (ns : List NamedTy) where
  module _ (p : Ty → Bool) (lift : (t : Ty) → p t ≡ true → HoldsOfParts test ns t) where
    fields_to : (fs : Fields) → each_field p fs ≡ true → HoldsOfFields test ns fs
    fields_to no_fields h = of_none
    fields_to (more_fields name package_ t embedded tag fs) h =
        let g = both (p t) (each_field p fs) h in of_more name package_ t embedded tag fs (lift t g.0) (fields_to fs g.1)

    named_to : (id : ℕ) (o : Option Ty) → under_at ns id ≡ o → if_under p o ≡ true → HoldsOfParts test ns (named id)
    named_to id None e h = cc
    named_to id (Some u) e h = of_named id u e (lift u h)

    level_to : (t : Ty) → holds_at test ns p t ≡ true → HoldsOfParts test ns t
    level_to (array n t) h = of_array n t (lift t h)
    level_to (struct fs) h = of_struct fs (fields_to fs h)
    level_to (named id) h = named_to id (under_at ns id) refl h
    level_to bool h = of_leaf bool refl h
    level_to str h = of_leaf str refl h
    level_to (int name) h = of_leaf (int name) refl h
    level_to nil h = of_leaf nil refl h
    level_to (untyped b) h = of_leaf (untyped b) refl h
    level_to (slice t) h = of_leaf (slice t) refl h
    level_to (pointer t) h = of_leaf (pointer t) refl h
    level_to (func ps rs v) h = of_leaf (func ps rs v) refl h
    level_to (interface ms) h = of_leaf (interface ms) refl h
    level_to (mapping k v) h = of_leaf (mapping k v) refl h
    level_to (chan d t) h = of_leaf (chan d t) refl h
    level_to (tuple ts) h = of_leaf (tuple ts) refl h

  parts_to : (n : ℕ) (t : Ty) → holds_within test ns n t ≡ true → HoldsOfParts test ns t
  unfolding holds_within
  parts_to zero t h = cc
  parts_to (suc n) t h = level_to (holds_within test ns n) (parts_to n) t h

  module _ (p q : Ty → Bool) (lower : (t : Ty) → HoldsOfParts test ns t → q t ≡ true → p t ≡ true) where
    fields_from : (fs : Fields) → HoldsOfFields test ns fs → each_field q fs ≡ true → each_field p fs ≡ true
    fields_from no_fields d h = refl
    fields_from (more_fields name package_ t embedded tag fs) (of_more _ _ _ _ _ _ d ds) h =
        let g = both (q t) (each_field q fs) h in join (p t) (each_field p fs) (lower t d g.0) (fields_from fs ds g.1)

    named_from : (o : Option Ty) (u : Ty) → o ≡ Some u → HoldsOfParts test ns u → if_under q o ≡ true → if_under p o ≡ true
    named_from None u e d h = cc
    named_from (Some w) u e d h = let f : u ≡ w = cc in lower w (subst (HoldsOfParts test ns) f d) h

    level_from : (t : Ty) → HoldsOfParts test ns t → holds_at every ns q t ≡ true → holds_at test ns p t ≡ true
    level_from (array n t) (of_array _ _ d) h = lower t d h
    level_from (array n t) (of_leaf _ l d) h = cc
    level_from (struct fs) (of_struct _ d) h = fields_from fs d h
    level_from (struct fs) (of_leaf _ l d) h = cc
    level_from (named id) (of_named _ u e d) h = named_from (under_at ns id) u e d h
    level_from (named id) (of_leaf _ l d) h = cc
    level_from bool (of_leaf _ l d) h = d
    level_from str (of_leaf _ l d) h = d
    level_from (int name) (of_leaf _ l d) h = d
    level_from nil (of_leaf _ l d) h = d
    level_from (untyped b) (of_leaf _ l d) h = d
    level_from (slice t) (of_leaf _ l d) h = d
    level_from (pointer t) (of_leaf _ l d) h = d
    level_from (func ps rs v) (of_leaf _ l d) h = d
    level_from (interface ms) (of_leaf _ l d) h = d
    level_from (mapping k v) (of_leaf _ l d) h = d
    level_from (chan c t) (of_leaf _ l d) h = d
    level_from (tuple ts) (of_leaf _ l d) h = d

  parts_from : (n : ℕ) (t : Ty) → HoldsOfParts test ns t → holds_within every ns n t ≡ true → holds_within test ns n t ≡ true
  unfolding holds_within
  parts_from zero t d h = cc
  parts_from (suc n) t d h = level_from (holds_within test ns n) (holds_within every ns n) (parts_from n) t d h

  -- to the depth of the type's parts, computing answers what derivations say
  pub parts_iff : (n : ℕ) (t : Ty) (r : Bool) → holds_within every ns n t ≡ true → r ≡ holds_within test ns n t → IsTrue r ↔ HoldsOfParts test ns t
  parts_iff n t r f e = (λ h. parts_to n t (sym e ∙ h), λ d. e ∙ parts_from n t d f)

-- ---- sizes

module _ (ns : List NamedTy) (p : Ty → ℕ) (q : Ty → Bool) (has : (t : Ty) → q t ≡ true → HasSize ns t (p t)) where
  fields_size : (fs : Fields) → each_field q fs ≡ true → FieldsHaveSize ns fs (sum_fields p fs)
  fields_size no_fields h = no_field
  fields_size (more_fields name package_ t embedded tag fs) h =
      let g = both (q t) (each_field q fs) h in one_more name package_ t embedded tag fs (p t) (sum_fields p fs) (has t g.0) (fields_size fs g.1)

  named_size : (id : ℕ) (o : Option Ty) → under_at ns id ≡ o → if_under q o ≡ true → HasSize ns (named id) (under_size p o)
  named_size id None e h = cc
  named_size id (Some u) e h = stands_for id u (p u) e (has u h)

  level_size : (t : Ty) → holds_at every ns q t ≡ true → HasSize ns t (size_at ns p t)
  level_size (array n t) h = elements n t (p t) (has t h)
  level_size (struct fs) h = fields fs (sum_fields p fs) (fields_size fs h)
  level_size (named id) h = named_size id (under_at ns id) refl h
  level_size bool h = one_scalar bool refl
  level_size str h = one_scalar str refl
  level_size (int name) h = one_scalar (int name) refl
  level_size nil h = one_scalar nil refl
  level_size (untyped b) h = one_scalar (untyped b) refl
  level_size (slice t) h = one_scalar (slice t) refl
  level_size (pointer t) h = one_scalar (pointer t) refl
  level_size (func ps rs v) h = one_scalar (func ps rs v) refl
  level_size (interface ms) h = one_scalar (interface ms) refl
  level_size (mapping k v) h = one_scalar (mapping k v) refl
  level_size (chan d t) h = one_scalar (chan d t) refl
  level_size (tuple ts) h = one_scalar (tuple ts) refl

pub has_size : (ns : List NamedTy) (n : ℕ) (t : Ty) → holds_within every ns n t ≡ true → HasSize ns t (size_within ns n t)
unfolding holds_within size_within
has_size ns zero t h = cc
has_size ns (suc n) t h = level_size ns (size_within ns n) (holds_within every ns n) (has_size ns n) t h

pub size_none : (ns : List NamedTy) (n : ℕ) (t : Ty) → n ≡ 0 → size_within ns n t ≡ 1
unfolding size_within
size_none ns zero t e = refl
size_none ns (suc n) t e = absurd (omega arith)

pub size_step : (ns : List NamedTy) (n : ℕ) (t : Ty) → (n ≡ 0 → ⊥) → size_at ns (size_within ns (n - 1)) t ≡ size_within ns n t
unfolding size_within
size_step ns zero t h = absurd (h refl)
size_step ns (suc n) t h = ap (λ (k : ℕ). size_at ns (size_within ns k) t) (omega arith)

-- ---- sizes up to a cap

grows : (k c : ℕ) → c ≤ suc k * c
grows k c = grind arith

pub times_capped : (c n s : ℕ) → 0 < c → min (max 1 (n * min s c)) c ≡ min (max 1 (n * s)) c
times_capped c zero s l = ap (λ (k : ℕ). min (max 1 k) c) (omega arith)
times_capped c (suc k) s l = by (cases_lt c s)
  where
    by : (c < s) ⊎ (s ≤ c) → min (max 1 (suc k * min s c)) c ≡ min (max 1 (suc k * s)) c
    by (inl h) =
        let e : min s c ≡ c = omega arith in
        let g : c ≤ suc k * c = grows k c in
        let f : s ≤ suc k * s = grows k s in
        ap (λ (m : ℕ). min (max 1 (suc k * m)) c) e ∙ omega arith
    by (inr h) = let e : min s c ≡ s = omega arith in ap (λ (m : ℕ). min (max 1 (suc k * m)) c) e

pub sum_capped : (c a b : ℕ) → min (min a c + min b c) c ≡ min (a + b) c
sum_capped c a b = omega arith

-- a size from what is left of it under the cap
pub size_past : (ns : List NamedTy) (n : ℕ) (t : Ty) (c r : ℕ) → holds_within every ns n t ≡ true → r ≡ min (size_within ns n t) (c + 1) → c < r → (s : ℕ) × HasSize ns t s × (c < s)
size_past ns n t c r f e h = (size_within ns n t, has_size ns n t f, omega arith)

pub size_within_cap : (ns : List NamedTy) (n : ℕ) (t : Ty) (c r : ℕ) → holds_within every ns n t ≡ true → r ≡ min (size_within ns n t) (c + 1) → r ≤ c → HasSize ns t r × (r ≤ c)
size_within_cap ns n t c r f e h = let g : size_within ns n t ≡ r = omega arith in (subst (HasSize ns t) g (has_size ns n t f), h)
