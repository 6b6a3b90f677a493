-- A type whose parts by value nest deeper than its table has types contains itself, or holds by value a
-- type that does or a named type that isn't set.
use Rattle.std.proofs.Common.{◌≡◌, ℕ, zero, suc, ◌+◌, ◌<◌, ◌≤◌, Bool, true, false, List, [], ◌∷◌, Option, Some, None, get_or, length, map, refl, ap, sym, ◌∙◌, subst, arith, inl, inr}
use Rattle.std.specs.Prelude.{IsTrue, ◌↔◌, ◌&&◌, ◌||◌, ◌⊎◌}
use Rattle.std.specs.List.{AllByRecursion, Contains, IsDistinct, list_any}
use Rattle.std.proofs.Math.Dec.{eqb}
use Rattle.std.proofs.lemmas.Bool.{eqb-true}
use Rattle.std.proofs.lemmas.Map.Keys.{IsDistinct-cons}
use Rattle.std.proofs.lemmas.Map.Steps.{length-le_from_distinct_below}
use Rattle.go_type.specs.Tree.{Ty, Fields, bool, array, struct, named, no_fields, more_fields}
use Rattle.go_type.specs.Levels.{fields_of, level, trees, FieldsBelow, Below, Rises}
use Rattle.go_type.specs.Named.{NamedTy, NamesBelow, named_of, under_of, UnderBelow}
use Rattle.go_type.specs.Underlying.{under_in, under_at}
use Rattle.go_type.specs.Parts.{HoldsOfParts, of_leaf, of_array, of_struct, of_named, HoldsOfFields, of_none, of_more, each_field, if_under, holds_at, holds_within, every, is_leaf}
use Rattle.go_type.specs.Endless.{field_types, if_set, parts, LeadsByValue, stays, goes_on, IsUnset, NeverEnds}
use Rattle.go_type.specs.declared.types.TypeId.{TypeId}
use Rattle.go_type.specs.declared.types.FieldRow.{FieldRow}
use Rattle.go_type.specs.declared.types.NamedType.{NamedType}
use Rattle.go_type.specs.declared.types.GoType.{GoType}
use Rattle.go_type.specs.declared.types.GoType.TheVariants as go
use Rattle.go_type.proofs.LevelLemmas.{length_trees}
use Rattle.go_type.proofs.Finite.{InPlaces}
use Rattle.go_type.proofs.Closed.{in_places, tree_level, name_at, get_mapped}
use Rattle.go_type.proofs.PartLemmas.{parts_iff}

-- ---- lists

first_part : (t : Ty) (ts : List Ty) → Contains (t ∷ ts) t
first_part t ts = (0, omega arith, refl)

later_part : (t v : Ty) (ts : List Ty) → Contains ts v → Contains (t ∷ ts) v
later_part t v ts c = (suc c.0, omega (arith, c.1), c.2)

no_part : (v : Ty) → Contains [] v → ⊥
no_part v c = absurd (omega (arith, c.1))

first_or_later : (t v : Ty) (ts : List Ty) → Contains (t ∷ ts) v → (t ≡ v) ⊎ Contains ts v
first_or_later t v ts (zero, l, e) = inl e
first_or_later t v ts (suc k, l, e) = inr (k, omega (arith, l), e)

only_part : (t v : Ty) → Contains (t ∷ []) v → t ≡ v
only_part t v c = elim (first_or_later t v [] c) [ inl e ↦ e | inr d ↦ absurd (no_part v d) ]

each_part : (P : Ty → Type 0) (ts : List Ty) (v : Ty) → AllByRecursion P ts → Contains ts v → P v
each_part P [] v a c = absurd (no_part v c)
each_part P (t ∷ ts) v a c =
    elim (first_or_later t v ts c) [ inl e ↦ subst P e a.0 | inr d ↦ each_part P ts v a.1 d ]

decided : (b : Bool) → (b ≡ true) ⊎ (b ≡ false)
decided true = inl refl
decided false = inr refl

or_split : (a b : Bool) → (a || b) ≡ true → (a ≡ true) ⊎ (b ≡ true)
or_split true b h = inl refl
or_split false b h = inr h

or_neither : (a b : Bool) → (a || b) ≡ false → (a ≡ false) × (b ≡ false)
or_neither true b h = cc
or_neither false b h = (refl, h)

apart : (q : ℕ) (is : List ℕ) → list_any (eqb q) is ≡ false → AllByRecursion (λ (i : ℕ). eqb q i ≡ false) is
apart q [] h = tt
apart q (i ∷ is) h = let g = or_neither (eqb q i) (list_any (eqb q) is) h in (g.0, apart q is g.1)

none_distinct : IsDistinct eqb []
unfolding IsDistinct
none_distinct = tt

-- ---- where one level fails

module _ (ns : List NamedTy) (p : Ty → Bool) where
  fails_fields : (fs : Fields) → each_field p fs ≡ false → (v : Ty) × Contains (field_types fs) v × (p v ≡ false)
  fails_fields no_fields h = cc
  fails_fields (more_fields name package_ t embedded tag fs) h =
      elim (decided (p t)) [
        | inl e ↦ let r = fails_fields fs (rest (p t) (each_field p fs) e h) in (r.0, later_part t r.0 (field_types fs) r.1, r.2)
        | inr e ↦ (t, first_part t (field_types fs), e)
      ]
    where
      rest : (a b : Bool) → a ≡ true → (a && b) ≡ false → b ≡ false
      rest true b e h = h
      rest false b e h = cc

  fails_under : (o : Option Ty) → if_under p o ≡ false → (o ≡ None) ⊎ ((v : Ty) × Contains (if_set o) v × (p v ≡ false))
  fails_under None h = inl refl
  fails_under (Some u) h = inr (u, first_part u [], h)

  fails_at : (t : Ty) → holds_at every ns p t ≡ false → IsUnset ns t ⊎ ((v : Ty) × Contains (parts ns t) v × (p v ≡ false))
  fails_at (array n t) h = inr (t, first_part t [], h)
  fails_at (struct fs) h = inr (fails_fields fs h)
  fails_at (named id) h = fails_under (under_at ns id) h
  fails_at _ h = cc

leads_on : (ns : List NamedTy) (t v u : Ty) → LeadsByValue ns t v → Contains (parts ns v) u → LeadsByValue ns t u
leads_on ns t v u (stays _) c = goes_on t u u c (stays u)
leads_on ns t v u (goes_on _ w _ d l) c = goes_on t w u d (leads_on ns w v u l c)

-- ---- down through the types of a table, each met once

module _ (ns : List NamedTy) (ts : List Ty) (closed : (i : ℕ) → i < length ts → AllByRecursion (InPlaces ts) (parts ns (get_or ts i bool))) where
  fails_in : (p : Ty → Bool) (i : ℕ) → i < length ts → holds_at every ns p (get_or ts i bool) ≡ false
      → IsUnset ns (get_or ts i bool) ⊎ ((q : ℕ) × (q < length ts) × Contains (parts ns (get_or ts i bool)) (get_or ts q bool) × (p (get_or ts q bool) ≡ false))
  fails_in p i l h = elim (fails_at ns p (get_or ts i bool) h) [ inl u ↦ inl u | inr f ↦ inr (found f.0 f.1 f.2) ]
    where
      found : (v : Ty) → Contains (parts ns (get_or ts i bool)) v → p v ≡ false → (q : ℕ) × (q < length ts) × Contains (parts ns (get_or ts i bool)) (get_or ts q bool) × (p (get_or ts q bool) ≡ false)
      found v c f =
          let at = each_part (InPlaces ts) (parts ns (get_or ts i bool)) v (closed i l) c in
          (at.0, at.1, subst (Contains (parts ns (get_or ts i bool))) (sym at.2) c, subst (λ (u : Ty). p u ≡ false) (sym at.2) f)

  -- each type that was met leads to this one
  abbrev AllLead : List ℕ → ℕ → Type 0
  AllLead is i = (q : ℕ) → list_any (eqb q) is ≡ true → (q < length ts) × LeadsByValue ns (get_or ts q bool) (get_or ts i bool)

  lead_on : (is : List ℕ) (i q : ℕ) → q < length ts → AllLead is i → Contains (parts ns (get_or ts i bool)) (get_or ts q bool) → AllLead (q ∷ is) q
  lead_on is i q l a c r h =
      elim (or_split (eqb r q) (list_any (eqb r) is) h) [
        | inl e ↦ let f : q ≡ r = sym (eqb-true r q e) in subst (λ (k : ℕ). (k < length ts) × LeadsByValue ns (get_or ts k bool) (get_or ts q bool)) f (l, stays (get_or ts q bool))
        | inr e ↦ let b = a r e in (b.0, leads_on ns (get_or ts r bool) (get_or ts i bool) (get_or ts q bool) b.1 c)
      ]

  seek : (k : ℕ) (t : Ty) (i : ℕ) (is : List ℕ) → IsDistinct eqb (i ∷ is) → AllLead (i ∷ is) i → i < length ts → LeadsByValue ns t (get_or ts i bool)
      → holds_within every ns k (get_or ts i bool) ≡ false → length ts < k + length (i ∷ is) → NeverEnds ns t
  unfolding holds_within
  seek zero t i is d a b l h n = absurd (omega (arith, length-le_from_distinct_below (i ∷ is) (length ts) d (λ q m. (a q m).0)))
  seek (suc k) t i is d a b l h n =
      elim (fails_in (holds_within every ns k) i b h) [
        | inl u ↦ (get_or ts i bool, l, inr u)
        | inr f ↦ elim (decided (list_any (eqb f.0) (i ∷ is))) [
          | inl e ↦ (get_or ts i bool, l, inl (get_or ts f.0 bool, f.2, (a f.0 e).1))
          | inr e ↦ seek k t f.0 (i ∷ is)
              (IsDistinct-cons eqb f.0 (i ∷ is) (apart f.0 (i ∷ is) e) d)
              (lead_on (i ∷ is) i f.0 f.1 a f.2)
              f.1
              (leads_on ns t (get_or ts i bool) (get_or ts f.0 bool) l f.2)
              f.3
              (omega arith)
        ]
      ]

  endless_past : (k i : ℕ) → i < length ts → length ts ≤ k → holds_within every ns k (get_or ts i bool) ≡ false → NeverEnds ns (get_or ts i bool)
  endless_past k i b n h =
      seek k (get_or ts i bool) i [] (IsDistinct-cons eqb i [] tt none_distinct) only b (stays (get_or ts i bool)) h (omega arith)
    where
      only : AllLead (i ∷ []) i
      only r h =
          elim (or_split (eqb r i) false h) [
            | inl e ↦ let f : i ≡ r = sym (eqb-true r i e) in subst (λ (k : ℕ). (k < length ts) × LeadsByValue ns (get_or ts k bool) (get_or ts i bool)) f (b, stays (get_or ts i bool))
            | inr e ↦ cc
          ]

-- ---- a derivation ends

module _ (test : Ty → Bool) (ns : List NamedTy) where
  endless_part : (t : Ty) → NeverEnds ns t → IsUnset ns t ⊎ ((v : Ty) × Contains (parts ns t) v × NeverEnds ns v)
  endless_part t (u, stays _, inl c) = inr (c.0, c.1, (t, c.2, inl c))
  endless_part t (u, stays _, inr n) = inl n
  endless_part t (u, goes_on _ v _ c l, e) = inr (v, c, (u, l, e))

  leaf_ends : (t : Ty) → IsTrue (is_leaf t) → IsUnset ns t ⊎ ((v : Ty) × Contains (parts ns t) v × NeverEnds ns v) → ⊥
  leaf_ends (array n t) l x = cc
  leaf_ends (struct fs) l x = cc
  leaf_ends (named id) l x = cc
  leaf_ends _ l (inl x) = x
  leaf_ends _ l (inr x) = no_part x.0 x.1

  array_ends : (n : ℕ) (t : Ty) → (NeverEnds ns t → ⊥) → IsUnset ns (array n t) ⊎ ((v : Ty) × Contains (parts ns (array n t)) v × NeverEnds ns v) → ⊥
  array_ends n t d (inl x) = x
  array_ends n t d (inr x) = d (subst (NeverEnds ns) (sym (only_part t x.0 x.1)) x.2)

  struct_ends : (fs : Fields) → ((v : Ty) → Contains (field_types fs) v → NeverEnds ns v → ⊥) → IsUnset ns (struct fs) ⊎ ((v : Ty) × Contains (parts ns (struct fs)) v × NeverEnds ns v) → ⊥
  struct_ends fs d (inl x) = x
  struct_ends fs d (inr x) = d x.0 x.1 x.2

  named_ends : (id : ℕ) (u : Ty) → under_at ns id ≡ Some u → (NeverEnds ns u → ⊥) → IsUnset ns (named id) ⊎ ((v : Ty) × Contains (parts ns (named id)) v × NeverEnds ns v) → ⊥
  named_ends id u g d (inl x) = let e : ◌≡◌ {A = Option Ty} None (Some u) = sym x ∙ g in cc
  named_ends id u g d (inr x) =
      let c : Contains (u ∷ []) x.0 = subst (λ (o : Option Ty). Contains (if_set o) x.0) g x.1 in
      d (subst (NeverEnds ns) (sym (only_part u x.0 c)) x.2)

  mutual
    ends : (t : Ty) → HoldsOfParts test ns t → NeverEnds ns t → ⊥
    ends t (of_leaf _ l h) e = leaf_ends t l (endless_part t e)
    ends (array n t) (of_array _ _ d) e = array_ends n t (ends t d) (endless_part (array n t) e)
    ends (struct fs) (of_struct _ d) e = struct_ends fs (fields_end fs d) (endless_part (struct fs) e)
    ends (named id) (of_named _ u g d) e = named_ends id u g (ends u d) (endless_part (named id) e)

    fields_end : (fs : Fields) → HoldsOfFields test ns fs → (v : Ty) → Contains (field_types fs) v → NeverEnds ns v → ⊥
    fields_end no_fields of_none v c e = no_part v c
    fields_end (more_fields name package_ t embedded tag fs) (of_more _ _ _ _ _ _ d ds) v c e =
        elim (first_or_later t v (field_types fs) c) [
          | inl q ↦ ends t d (subst (NeverEnds ns) (sym q) e)
          | inr r ↦ fields_end fs ds v r e
        ]

-- ---- the types of a table

module _ (gs : List GoType) (xs : List NamedType) (rises : Rises (length xs) gs) (below : NamesBelow (length gs) xs) where
  types_in : (fs : List FieldRow) → FieldsBelow (length gs) fs → AllByRecursion (InPlaces (trees gs)) (field_types (fields_of (trees gs) fs))
  types_in [] b = tt
  types_in (f ∷ fs) b = (in_places gs xs rises below f.ty b.0, types_in fs b.1)

  under_in_places : (o : Option TypeId) → UnderBelow (length gs) o → AllByRecursion (InPlaces (trees gs)) (if_set (under_of (trees gs) o))
  under_in_places None b = tt
  under_in_places (Some t) b = (in_places gs xs rises below t b, tt)

  parts_level : (g : GoType) → Below (length gs) (length xs) g → AllByRecursion (InPlaces (trees gs)) (parts (map (named_of (trees gs)) xs) (level (trees gs) g))
  parts_level (go.Array k t) b = (in_places gs xs rises below t b, tt)
  parts_level (go.Struct fs) b = types_in fs b.0
  parts_level (go.Named i) b =
      let x = name_at (length gs) xs i.0 b below in
      let e : under_at (map (named_of (trees gs)) xs) i.0 ≡ under_of (trees gs) x.0.under = ap under_in (get_mapped (trees gs) xs i.0 x.0 x.1) in
      subst (λ (o : Option Ty). AllByRecursion (InPlaces (trees gs)) (if_set o)) (sym e) (under_in_places x.0.under x.2.0)
  parts_level _ b = tt

  parts_closed : (i : ℕ) → i < length (trees gs) → AllByRecursion (InPlaces (trees gs)) (parts (map (named_of (trees gs)) xs) (get_or (trees gs) i bool))
  parts_closed i l =
      let x = tree_level gs xs rises below (record { 0 = i }) (omega (arith, length_trees gs)) in
      subst (λ (u : Ty). AllByRecursion (InPlaces (trees gs)) (parts (map (named_of (trees gs)) xs) u)) (sym x.1) (parts_level x.0 x.2)

  module _ (i : ℕ) (l : i < length gs) where
    abbrev ns : List NamedTy
    ns = map (named_of (trees gs)) xs

    abbrev t : Ty
    t = get_or (trees gs) i bool

    past : holds_within every ns (length gs) t ≡ false → NeverEnds ns t
    past h = endless_past ns (trees gs) parts_closed (length gs) i (omega (arith, length_trees gs)) (omega (arith, length_trees gs)) h

    to_parts : holds_within every ns (length gs) t ≡ true → HoldsOfParts every ns t
    to_parts h = (parts_iff every ns (length gs) t true h (sym h)).0 refl

    -- a derivation, however deep, needs no more levels than there are types
    pub derived : IsTrue (holds_within every ns (length gs) t) ↔ HoldsOfParts every ns t
    derived = (to_parts, from_parts)
      where
        from_parts : HoldsOfParts every ns t → holds_within every ns (length gs) t ≡ true
        from_parts d = elim (decided (holds_within every ns (length gs) t)) [ inl h ↦ h | inr h ↦ absurd (ends every ns t d (past h)) ]

    -- and what has none leads to a type that contains itself, or to a name that isn't set
    pub endless : (IsTrue (holds_within every ns (length gs) t) → ⊥) ↔ NeverEnds ns t
    endless = (no_end, λ e h. ends every ns t (to_parts h) e)
      where
        no_end : (IsTrue (holds_within every ns (length gs) t) → ⊥) → NeverEnds ns t
        no_end n = elim (decided (holds_within every ns (length gs) t)) [ inl h ↦ absurd (n h) | inr h ↦ past h ]
