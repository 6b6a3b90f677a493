-- A layout that grows by the parts of a type.
use Rattle.std.proofs.Common.{refl, sym, ap, ◌∙◌, arith, subst}
use Rattle.std.specs.Prelude.{◌≡◌, ◌<◌, ◌≤◌, ℕ, zero, suc, Option, Some, None, IfSome, IfNone, option_map, ◌+◌, ◌-◌, List, [], ◌∷◌, ◌++◌, Bool, true, false, ◌&&◌, not, length, drop, get_or}
use Rattle.std.proofs.lemmas.List.{append_assoc, append-nil, length-append, length-map, map-append, drop_all}
use Rattle.go_type.specs.Tree.{Ty}
use Rattle.go_type.specs.Levels.{level, tree_of, fields_of}
use Rattle.go_type.specs.Named.{NamedTy}
use Rattle.go_type.specs.Underlying.{under_at}
use Rattle.go_type.specs.declared.types.FieldRow.{FieldRow}
use Rattle.go_core.specs.Layout.{ScalarKind, Shape, one, many, Parts, no_parts, part, size, composites, parts_composites, flags, parts_flags, padded_flags, a_pointer, copies, shape_with, parts_with, parts_size, name_shape, shape_under, is_blank}
use Rattle.go_core.specs.Memory as core
use Rattle.go_core.specs.Memory.{Value, zeros, parts_zeros, zero_scalar, padded}
use Rattle.go_values.specs.ValuesSeen.{scalar_of, value_of}
use Rattle.go_values.specs.Laid.{leaf_kind, masked, Adds, AddsParts, IsLaid}
use Rattle.go_values.specs.declared.layouts.layout.Layout.{Layout}
use Rattle.go_values.specs.declared.values.scalar.Scalar.{Scalar}
use Rattle.go_type.specs.declared.types.GoType.{GoType}
use Rattle.go_type.specs.declared.types.GoType.TheVariants as go
use Rattle.go_type.specs.declared.types.NamedId.{NamedId}
use Rattle.go_type.specs.declared.types.TypeId.{TypeId}
use Rattle.go_values.proofs.LayoutsLevelLemmas.{uncons}
use Rattle.go_values.proofs.LayoutLemmas.{Onward, onward_start, onward_step, onward_end, length_zeros, length_parts_zeros, length_parts_flags}

-- ---- one scalar

masked_one : (looked : Bool) → looked ∷ [] ≡ masked looked (true ∷ [])
masked_one true = refl
masked_one false = refl

pub adds_one : (ts : List Ty) (old new : Layout) (looked : Bool) (x : Scalar) (k : ScalarKind) → new.zeros.items ≡ old.zeros.items ++ x ∷ [] → new.flags.items ≡ old.flags.items ++ looked ∷ []
    → new.composites ≡ old.composites → scalar_of ts x ≡ zero_scalar k → Adds ts old new looked (one k)
adds_one ts old new looked x k ez ef ec e = record {
  zeros_ = ap (value_of ts) ez ∙ map-append (scalar_of ts) old.zeros.items (x ∷ []) ∙ ap (λ (y : core.Scalar). value_of ts old.zeros.items ++ y ∷ []) e;
  flags_ = ef ∙ ap (λ (fs : List Bool). old.flags.items ++ fs) (masked_one looked);
  composites_ = omega (arith, ec);
}

-- ---- the elements of an array

and_true : (b : Bool) → b ≡ (b && true)
and_true true = refl
and_true false = refl

pub copies_start : (ts : List Ty) (l : Layout) (looked : Bool) (n : ℕ) (s : Shape) → Onward ts l l looked (copies (n - 0) s) (copies n s)
copies_start ts l looked n s =
    let e : n ≡ n - 0 = omega arith in
    subst (λ (k : ℕ). Onward ts l l looked (copies k s) (copies n s)) e (onward_start ts l looked (copies n s))

pub copies_step : (ts : List Ty) (start now next : Layout) (looked : Bool) (n i : ℕ) (s : Shape) → i < n
    → Onward ts start now looked (copies (n - i) s) (copies n s) → Adds ts now next looked s → Onward ts start next looked (copies (n - (i + 1)) s) (copies n s)
copies_step ts start now next looked n i s h o a =
    let e : n - i ≡ suc (n - (i + 1)) = omega (arith, h) in
    let o' = subst (λ (k : ℕ). Onward ts start now looked (copies k s) (copies n s)) e o in
    onward_step ts start now next looked true looked s (copies (n - (i + 1)) s) (copies n s) (and_true looked) o' a

pub copies_end : (ts : List Ty) (start now : Layout) (looked : Bool) (n i : ℕ) (s : Shape) → n ≤ i → Onward ts start now looked (copies (n - i) s) (copies n s) → AddsParts ts start now looked (copies n s)
copies_end ts start now looked n i s h o =
    let e : n - i ≡ 0 = omega (arith, h) in
    onward_end ts start now looked (copies n s) (subst (λ (k : ℕ). Onward ts start now looked (copies k s) (copies n s)) e o)

-- ---- the fields of a struct

pub fields_step : (ts : List Ty) (of_name : ℕ → Shape) (start now next : Layout) (looked compared : Bool) (fs : List FieldRow) (i : ℕ) (r : FieldRow) (t : TypeId)
    → i < length fs → t ≡ (get_or fs i r).ty → compared ≡ (looked && not (is_blank (get_or fs i r).name))
    → Onward ts start now looked (parts_with of_name (fields_of ts (drop i fs))) (parts_with of_name (fields_of ts fs)) → Adds ts now next compared (shape_with of_name (tree_of ts t))
    → Onward ts start next looked (parts_with of_name (fields_of ts (drop (i + 1) fs))) (parts_with of_name (fields_of ts fs))
fields_step ts of_name start now next looked compared fs i r t h e b o a =
    let u = uncons fs i h in
    let f = u.first in
    let ty : t ≡ f.ty = e ∙ ap (λ (g : FieldRow). g.ty) (u.at r) in
    let blank : compared ≡ (looked && not (is_blank f.name)) = b ∙ ap (λ (g : FieldRow). looked && not (is_blank g.name)) (u.at r) in
    let o' = subst (λ (rs : List FieldRow). Onward ts start now looked (parts_with of_name (fields_of ts rs)) (parts_with of_name (fields_of ts fs))) u.split o in
    let a' = subst (λ (x : TypeId). Adds ts now next compared (shape_with of_name (tree_of ts x))) ty a in
    onward_step ts start now next looked (not (is_blank f.name)) compared (shape_with of_name (tree_of ts f.ty)) (parts_with of_name (fields_of ts (drop (i + 1) fs))) (parts_with of_name (fields_of ts fs)) blank o' a'

pub fields_end : (ts : List Ty) (of_name : ℕ → Shape) (start now : Layout) (looked : Bool) (fs : List FieldRow) (i : ℕ) → length fs ≤ i
    → Onward ts start now looked (parts_with of_name (fields_of ts (drop i fs))) (parts_with of_name (fields_of ts fs)) → AddsParts ts start now looked (parts_with of_name (fields_of ts fs))
fields_end ts of_name start now looked fs i h o =
    let all = parts_with of_name (fields_of ts fs) in
    onward_end ts start now looked all (subst (λ (rs : List FieldRow). Onward ts start now looked (parts_with of_name (fields_of ts rs)) all) (drop_all i fs h) o)

-- ---- a struct or an array

none_left : (fs : List Bool) → length fs ≡ 0 → fs ≡ []
none_left [] e = refl
none_left (f ∷ fs) e = absurd (omega (arith, e))

padded_more : (xs : Value) (x : core.Scalar) (zs : Value) → xs ≡ x ∷ zs → xs ≡ padded xs
padded_more [] x zs e = absurd (cc)
padded_more (y ∷ ys) x zs e = refl

padded_flags_more : (fs : List Bool) (n : ℕ) → length fs ≡ suc n → fs ≡ padded_flags fs
padded_flags_more [] n e = absurd (omega (arith, e))
padded_flags_more (f ∷ fs) n e = refl

masked_none : (looked : Bool) (fs : List Bool) → fs ≡ [] → masked looked fs ++ false ∷ [] ≡ masked looked (padded_flags fs)
masked_none true [] e = refl
masked_none false [] e = refl
masked_none looked (f ∷ fs) e = absurd (cc)

pub closes : (ts : List Ty) (start mid new : Layout) (looked : Bool) (ps : Parts) (before : ℕ) → before ≡ length start.zeros.items → AddsParts ts start mid looked ps
    → (length mid.zeros.items ≡ before → value_of ts new.zeros.items ≡ value_of ts mid.zeros.items ++ core.nil ∷ [])
    → (length mid.zeros.items ≡ before → new.flags.items ≡ mid.flags.items ++ false ∷ [])
    → (¬ (length mid.zeros.items ≡ before) → (new.zeros.items ≡ mid.zeros.items) × (new.flags.items ≡ mid.flags.items))
    → new.composites ≡ mid.composites + 1
    → Adds ts start new looked (many ps)
closes ts start mid new looked ps before b a hz hf hs hc = by_zeros (parts_zeros ps) refl
  where
    count : length mid.zeros.items ≡ length start.zeros.items + length (parts_zeros ps)
    count =
        sym (length-map mid.zeros.items (scalar_of ts)) ∙ ap length a.zeros_ ∙ length-append (value_of ts start.zeros.items) (parts_zeros ps)
        ∙ ap (λ (n : ℕ). n + length (parts_zeros ps)) (length-map start.zeros.items (scalar_of ts))

    flag_count : length (parts_flags ps) ≡ length (parts_zeros ps)
    flag_count = length_parts_flags ps ∙ sym (length_parts_zeros ps)

    total : new.composites ≡ start.composites + suc (parts_composites ps)
    total = let e : mid.composites ≡ start.composites + parts_composites ps = a.composites_ in omega (arith, hc, e)

    by_zeros : (zs : Value) → parts_zeros ps ≡ zs → Adds ts start new looked (many ps)
    by_zeros [] e =
        let n : length (parts_zeros ps) ≡ 0 = ap length e in
        let m : length mid.zeros.items ≡ before = omega (arith, count, b, n) in
        let none : parts_flags ps ≡ [] = none_left (parts_flags ps) (flag_count ∙ n) in
        record {
          zeros_ =
              hz m
              ∙ ap (λ (xs : Value). xs ++ core.nil ∷ []) (a.zeros_ ∙ ap (λ (zs : Value). value_of ts start.zeros.items ++ zs) e ∙ append-nil (value_of ts start.zeros.items))
              ∙ ap (λ (zs : Value). value_of ts start.zeros.items ++ padded zs) (sym e);
          flags_ =
              hf m
              ∙ ap (λ (fs : List Bool). fs ++ false ∷ []) a.flags_
              ∙ append_assoc start.flags.items (masked looked (parts_flags ps)) (false ∷ [])
              ∙ ap (λ (fs : List Bool). start.flags.items ++ fs) (masked_none looked (parts_flags ps) none);
          composites_ = total;
        }
    by_zeros (z ∷ zs) e =
        let n : length (parts_zeros ps) ≡ suc (length zs) = ap length e in
        let m : ¬ (length mid.zeros.items ≡ before) = λ h. omega (arith, count, b, n, h) in
        record {
          zeros_ = ap (value_of ts) (hs m).0 ∙ a.zeros_ ∙ ap (λ (xs : Value). value_of ts start.zeros.items ++ xs) (padded_more (parts_zeros ps) z zs e);
          flags_ = (hs m).1 ∙ a.flags_ ∙ ap (λ (fs : List Bool). start.flags.items ++ masked looked fs) (padded_flags_more (parts_flags ps) (length zs) (flag_count ∙ n));
          composites_ = total;
        }

-- ---- a whole type

pub laid : (ts : List Ty) (old new : Layout) (s : Shape) → old.zeros.items ≡ [] → old.flags.items ≡ [] → old.composites ≡ 0 → Adds ts old new true s → IsLaid ts new s
laid ts old new s ez ef ec a =
    let z : value_of ts new.zeros.items ≡ zeros s = a.zeros_ ∙ ap (λ (xs : List Scalar). value_of ts xs ++ zeros s) ez in
    let c : new.composites ≡ old.composites + composites s = a.composites_ in
    record {
      zeros_ = z;
      flags_ = a.flags_ ∙ ap (λ (fs : List Bool). fs ++ flags s) ef;
      composites_ = omega (arith, c, ec);
      size_ = sym (length-map new.zeros.items (scalar_of ts)) ∙ ap length z ∙ length_zeros s;
    }

pub laid_size : (ts : List Ty) (old new : Layout) (s : Shape) → old.zeros.items ≡ [] → Adds ts old new true s → length new.zeros.items ≡ size s
laid_size ts old new s ez a =
    sym (length-map new.zeros.items (scalar_of ts)) ∙ ap length (a.zeros_ ∙ ap (λ (xs : List Scalar). value_of ts xs ++ zeros s) ez) ∙ length_zeros s

pub laid_parts_size : (ts : List Ty) (old new : Layout) (ps : Parts) → old.zeros.items ≡ [] → AddsParts ts old new true ps → length new.zeros.items ≡ parts_size ps
laid_parts_size ts old new ps ez a =
    sym (length-map new.zeros.items (scalar_of ts)) ∙ ap length (a.zeros_ ∙ ap (λ (xs : List Scalar). value_of ts xs ++ parts_zeros ps) ez) ∙ length_parts_zeros ps

-- ---- what a named type stands for

pub named_some : (ns : List NamedTy) (ts : List Ty) (left id : ℕ) (r : Option TypeId) → ¬ (left ≡ 0) → under_at ns id ≡ option_map (tree_of ts) r
    → IfSome r (λ t. name_shape ns left id ≡ shape_with (name_shape ns (left - 1)) (tree_of ts t))
named_some ns ts zero id r h e = absurd (h refl)
named_some ns ts (suc n) id None h e = tt
named_some ns ts (suc n) id (Some t) h e =
    let d : n ≡ suc n - 1 = omega arith in
    ap (λ (u : Option Ty). shape_under (shape_with (name_shape ns n)) u) e ∙ ap (λ (k : ℕ). shape_with (name_shape ns k) (tree_of ts t)) d

pub named_none : (ns : List NamedTy) (ts : List Ty) (left id : ℕ) (r : Option TypeId) → ¬ (left ≡ 0) → under_at ns id ≡ option_map (tree_of ts) r → IfNone r (name_shape ns left id ≡ one a_pointer)
named_none ns ts zero id r h e = absurd (h refl)
named_none ns ts (suc n) id None h e = ap (λ (u : Option Ty). shape_under (shape_with (name_shape ns n)) u) e
named_none ns ts (suc n) id (Some t) h e = tt

pub left_some : (left : ℕ) (r : Option TypeId) → ¬ (left ≡ 0) → IfSome r (λ t. 0 < left)
left_some left None h = tt
left_some left (Some t) h = omega (arith, h)

pub named_zero : (ns : List NamedTy) (left id : ℕ) → left ≡ 0 → name_shape ns left id ≡ one a_pointer
named_zero ns left id e = ap (λ (k : ℕ). name_shape ns k id) e

-- ---- a type that has no parts and no name

pub leaf_shape : (ts : List Ty) (of_name : ℕ → Shape) (g : GoType) → ((n : ℕ) (t : TypeId) → ¬ (g ≡ go.Array n t)) → ((fs : List FieldRow) → ¬ (g ≡ go.Struct fs)) → ((id : NamedId) → ¬ (g ≡ go.Named id))
    → one (leaf_kind (level ts g)) ≡ shape_with of_name (level ts g)
leaf_shape ts of_name go.Bool a s n = refl
leaf_shape ts of_name go.Str a s n = refl
leaf_shape ts of_name (go.Int name) a s n = refl
leaf_shape ts of_name go.Nil a s n = refl
leaf_shape ts of_name (go.Untyped b) a s n = refl
leaf_shape ts of_name (go.Array m t) a s n = absurd (a m t refl)
leaf_shape ts of_name (go.Slice t) a s n = refl
leaf_shape ts of_name (go.Struct fs) a s n = absurd (s fs refl)
leaf_shape ts of_name (go.Pointer t) a s n = refl
leaf_shape ts of_name (go.Func f) a s n = refl
leaf_shape ts of_name (go.Interface ms) a s n = refl
leaf_shape ts of_name (go.Map k v) a s n = refl
leaf_shape ts of_name (go.Chan d t) a s n = refl
leaf_shape ts of_name (go.Named id) a s n = absurd (n id refl)
leaf_shape ts of_name (go.Tuple is) a s n = refl
