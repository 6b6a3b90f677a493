-- Leaves against shapes: sizes, zeros, parts; and a named type has the leaves of what it stands for.
use Rattle.std.proofs.Common.{refl, sym, ap, ◌∙◌, subst, arith, suc-mul}
use Rattle.std.specs.Prelude.{◌≡◌, ◌<◌, ◌≤◌, ℕ, zero, suc, ◌+◌, ◌*◌, ◌-◌, List, [], ◌∷◌, ◌++◌, Bool, true, false, ◌&&◌, not, IsTrue, length, Option, Some, None, slice_get, pos}
use Rattle.std.proofs.lemmas.List.{length-append}
use Rattle.std.proofs.lemmas.Option.{slice_get_within}
use Rattle.go_type.specs.Tree as ty
use Rattle.go_type.specs.Tree.{Ty, Fields, no_fields, more_fields}
use Rattle.go_type.specs.Named.{NamedTy}
use Rattle.go_type.specs.Underlying.{underlying, under_at, under_in, or_else}
use Rattle.go_core.specs.Layout.{Shape, many, part, copies, shape_with, parts_with, shape_under, name_shape, shape_of, at_least_one, size, parts_size, nth_part, part_of, offset_in, located, further, holds_with, all_with, holds_under, name_holds, is_blank}
use Rattle.go_core.specs.Memory.{Value, zeros, parts_zeros, padded}
use Rattle.go_core.specs.CoreTree.{CoreProgram}
use Rattle.go_core.specs.TypeOf.{FieldTy, nth_field}
use Rattle.go_core.specs.SoundNode.{every}
use Rattle.go_core.specs.SoundProgram.{AreSet}
use Rattle.go_core.specs.Leaves.{Leaf, filler, leaf_of, times, or_filler, leaves_with, field_leaves, leaves_under, name_leaves, leaves_of, Spans}
use Rattle.go_core.specs.Typed.{World, truth_typed, whole_typed, text_typed, nil_typed, Lists}

-- ---- sizes

filled : (ls : List Leaf) → length (or_filler ls) ≡ at_least_one (length ls)
filled [] = refl
filled (l ∷ ls) = refl

times_size : (n : ℕ) (s : Shape) (ls : List Leaf) → size s ≡ length ls → parts_size (copies n s) ≡ length (times n ls)
times_size zero s ls e = refl
times_size (suc n) s ls e = let i = times_size n s ls e in let l = length-append ls (times n ls) in omega (arith, i, l, e)

module _ (f : ℕ → Shape) (g : ℕ → List Leaf) (named_size : (id : ℕ) → size (f id) ≡ length (g id)) where
  mutual
    size_with : (t : Ty) → size (shape_with f t) ≡ length (leaves_with g t)
    size_with (ty.array n t) = ap at_least_one (times_size n (shape_with f t) (leaves_with g t) (size_with t)) ∙ sym (filled (times n (leaves_with g t)))
    size_with (ty.struct fs) = ap at_least_one (fields_size fs) ∙ sym (filled (field_leaves g fs))
    size_with (ty.named id) = named_size id
    size_with _ = refl

    fields_size : (fs : Fields) → parts_size (parts_with f fs) ≡ length (field_leaves g fs)
    fields_size no_fields = refl
    fields_size (more_fields name package_ t embedded tag fs) =
        let i = size_with t in let j = fields_size fs in let l = length-append (leaves_with g t) (field_leaves g fs) in omega (arith, i, j, l)

under_size : (f : Ty → Shape) (g : Ty → List Leaf) → ((t : Ty) → size (f t) ≡ length (g t)) → (o : Option Ty) → size (shape_under f o) ≡ length (leaves_under g o)
under_size f g h None = refl
under_size f g h (Some t) = h t

name_size : (ns : List NamedTy) (n id : ℕ) → size (name_shape ns n id) ≡ length (name_leaves ns n id)
name_size ns zero id = refl
name_size ns (suc n) id = under_size (shape_with (name_shape ns n)) (leaves_with (name_leaves ns n)) (size_with (name_shape ns n) (name_leaves ns n) (name_size ns n)) (under_at ns id)

pub size_leaves : (ns : List NamedTy) (t : Ty) → size (shape_of ns t) ≡ length (leaves_of ns t)
size_leaves ns t = size_with (name_shape ns (length ns)) (name_leaves ns (length ns)) (name_size ns (length ns)) t

-- ---- zeros

module _ (p : CoreProgram) (w : World) where
  pub lists_append : (ls ks : List Leaf) (xs ys : Value) → Lists p w ls xs → Lists p w ks ys → Lists p w (ls ++ ks) (xs ++ ys)
  lists_append [] ks [] ys h k = k
  lists_append [] ks (x ∷ xs) ys h k = absurd h
  lists_append (l ∷ ls) ks [] ys h k = absurd h
  lists_append (l ∷ ls) ks (x ∷ xs) ys h k = (h.0, lists_append ls ks xs ys h.1 k)

  padded_filled : (ls : List Leaf) (xs : Value) → Lists p w ls xs → Lists p w (or_filler ls) (padded xs)
  padded_filled [] [] h = (nil_typed filler refl, tt)
  padded_filled [] (x ∷ xs) h = absurd h
  padded_filled (l ∷ ls) [] h = absurd h
  padded_filled (l ∷ ls) (x ∷ xs) h = h

  zeros_times : (n : ℕ) (s : Shape) (ls : List Leaf) → Lists p w ls (zeros s) → Lists p w (times n ls) (parts_zeros (copies n s))
  zeros_times zero s ls h = tt
  zeros_times (suc n) s ls h = lists_append ls (times n ls) (zeros s) (parts_zeros (copies n s)) h (zeros_times n s ls h)

  module _ (f : ℕ → Shape) (g : ℕ → List Leaf) (named_zeros : (id : ℕ) → Lists p w (g id) (zeros (f id))) where
    mutual
      zeros_with : (t : Ty) → Lists p w (leaves_with g t) (zeros (shape_with f t))
      zeros_with ty.bool = (truth_typed false, tt)
      zeros_with ty.str = (text_typed [], tt)
      zeros_with (ty.int name) = (whole_typed name (pos 0), tt)
      zeros_with (ty.array n t) = padded_filled (times n (leaves_with g t)) (parts_zeros (copies n (shape_with f t))) (zeros_times n (shape_with f t) (leaves_with g t) (zeros_with t))
      zeros_with (ty.struct fs) = padded_filled (field_leaves g fs) (parts_zeros (parts_with f fs)) (fields_zeros fs)
      zeros_with (ty.named id) = named_zeros id
      zeros_with t = (nil_typed (leaf_of t) refl, tt)

      fields_zeros : (fs : Fields) → Lists p w (field_leaves g fs) (parts_zeros (parts_with f fs))
      fields_zeros no_fields = tt
      fields_zeros (more_fields name package_ t embedded tag fs) = lists_append (leaves_with g t) (field_leaves g fs) (zeros (shape_with f t)) (parts_zeros (parts_with f fs)) (zeros_with t) (fields_zeros fs)

  under_zeros : (f : Ty → Shape) (g : Ty → List Leaf) → ((t : Ty) → Lists p w (g t) (zeros (f t))) → (o : Option Ty) → Lists p w (leaves_under g o) (zeros (shape_under f o))
  under_zeros f g h None = (nil_typed filler refl, tt)
  under_zeros f g h (Some t) = h t

  name_zeros : (ns : List NamedTy) (n id : ℕ) → Lists p w (name_leaves ns n id) (zeros (name_shape ns n id))
  name_zeros ns zero id = (nil_typed filler refl, tt)
  name_zeros ns (suc n) id = under_zeros (shape_with (name_shape ns n)) (leaves_with (name_leaves ns n)) (zeros_with (name_shape ns n) (name_leaves ns n) (name_zeros ns n)) (under_at ns id)

  pub zeros_of : (ns : List NamedTy) (t : Ty) → Lists p w (leaves_of ns t) (zeros (shape_of ns t))
  zeros_of ns t = zeros_with (name_shape ns (length ns)) (name_leaves ns (length ns)) (name_zeros ns (length ns)) t

-- ---- a named type and what it stands for: one name less deep is deep enough

both_true : (a b : Bool) → IsTrue (a && b) → IsTrue a × IsTrue b
both_true true b h = (refl, h)
both_true false b h = absurd (cc)

module _ (f g : ℕ → List Leaf) (holds : ℕ → Bool) (same : (id : ℕ) → IsTrue (holds id) → f id ≡ g id) where
  mutual
    same_with : (t : Ty) → IsTrue (holds_with every holds t) → leaves_with f t ≡ leaves_with g t
    same_with (ty.array n t) h = ap (λ ls. or_filler (times n ls)) (same_with t h)
    same_with (ty.struct fs) h = ap or_filler (same_fields fs h)
    same_with (ty.named id) h = same id h
    same_with _ h = refl

    same_fields : (fs : Fields) → IsTrue (all_with every holds fs) → field_leaves f fs ≡ field_leaves g fs
    same_fields no_fields h = refl
    same_fields (more_fields name package_ t embedded tag fs) h =
        let b = both_true (holds_with every holds t) (all_with every holds fs) h in
        ap (λ ls. ls ++ field_leaves f fs) (same_with t b.0) ∙ ap (λ ls. leaves_with g t ++ ls) (same_fields fs b.1)

module _ (f g : ℕ → Shape) (holds : ℕ → Bool) (same : (id : ℕ) → IsTrue (holds id) → f id ≡ g id) where
  mutual
    shapes_with : (t : Ty) → IsTrue (holds_with every holds t) → shape_with f t ≡ shape_with g t
    shapes_with (ty.array n t) h = ap (λ s. many (copies n s)) (shapes_with t h)
    shapes_with (ty.struct fs) h = ap many (shapes_fields fs h)
    shapes_with (ty.named id) h = same id h
    shapes_with _ h = refl

    shapes_fields : (fs : Fields) → IsTrue (all_with every holds fs) → parts_with f fs ≡ parts_with g fs
    shapes_fields no_fields h = refl
    shapes_fields (more_fields name package_ t embedded tag fs) h =
        let b = both_true (holds_with every holds t) (all_with every holds fs) h in
        ap (λ s. part (not (is_blank name)) s (parts_with f fs)) (shapes_with t b.0) ∙ ap (λ ps. part (not (is_blank name)) (shape_with g t) ps) (shapes_fields fs b.1)

under_same : (f g : Ty → List Leaf) (holds : Ty → Bool) → ((t : Ty) → IsTrue (holds t) → f t ≡ g t) → (o : Option Ty) → IsTrue (holds_under holds o) → leaves_under f o ≡ leaves_under g o
under_same f g holds h None t = absurd (cc)
under_same f g holds h (Some u) t = h u t

under_shapes : (f g : Ty → Shape) (holds : Ty → Bool) → ((t : Ty) → IsTrue (holds t) → f t ≡ g t) → (o : Option Ty) → IsTrue (holds_under holds o) → shape_under f o ≡ shape_under g o
under_shapes f g holds h None t = absurd (cc)
under_shapes f g holds h (Some u) t = h u t

deep : (ns : List NamedTy) (n id : ℕ) → IsTrue (name_holds every ns n id) → name_leaves ns n id ≡ name_leaves ns (suc n) id
deep ns zero id h = absurd (cc)
deep ns (suc n) id h =
    under_same (leaves_with (name_leaves ns n)) (leaves_with (name_leaves ns (suc n))) (holds_with every (name_holds every ns n))
    (same_with (name_leaves ns n) (name_leaves ns (suc n)) (name_holds every ns n) (deep ns n)) (under_at ns id) h

deep_shapes : (ns : List NamedTy) (n id : ℕ) → IsTrue (name_holds every ns n id) → name_shape ns n id ≡ name_shape ns (suc n) id
deep_shapes ns zero id h = absurd (cc)
deep_shapes ns (suc n) id h =
    under_shapes (shape_with (name_shape ns n)) (shape_with (name_shape ns (suc n))) (holds_with every (name_holds every ns n))
    (shapes_with (name_shape ns n) (name_shape ns (suc n)) (name_holds every ns n) (deep_shapes ns n)) (under_at ns id) h

under_within : (ns : List NamedTy) (id : ℕ) (u : Ty) → under_at ns id ≡ Some u → id < length ns
under_within ns id u e = by_name (slice_get ns id) refl e
  where
    by_name : (o : Option NamedTy) → slice_get ns id ≡ o → under_in o ≡ Some u → id < length ns
    by_name None f g = absurd (cc)
    by_name (Some x) f g = slice_get_within ns id x f

module _ (p : CoreProgram) (set : AreSet p) where
  name_is : (id : ℕ) (o : Option Ty) → under_at p.names id ≡ o → leaves_of p.names (ty.named id) ≡ leaves_of p.names (or_else o (ty.named id))
  name_is id None e = refl
  name_is id (Some u) e =
      deep p.names (length p.names) id (set id (under_within p.names id u e)) ∙ ap (λ o. leaves_under (leaves_with (name_leaves p.names (length p.names))) o) e

  pub under_leaves : (t : Ty) → leaves_of p.names t ≡ leaves_of p.names (underlying p.names t)
  under_leaves (ty.named id) = name_is id (under_at p.names id) refl
  under_leaves _ = refl

  name_shapes : (id : ℕ) (o : Option Ty) → under_at p.names id ≡ o → shape_of p.names (ty.named id) ≡ shape_of p.names (or_else o (ty.named id))
  name_shapes id None e = refl
  name_shapes id (Some u) e =
      deep_shapes p.names (length p.names) id (set id (under_within p.names id u e)) ∙ ap (λ o. shape_under (shape_with (name_shape p.names (length p.names))) o) e

  pub under_shape : (t : Ty) → shape_of p.names t ≡ shape_of p.names (underlying p.names t)
  under_shape (ty.named id) = name_shapes id (under_at p.names id) refl
  under_shape _ = refl

-- ---- parts

pub spans_first : (cells : List Leaf) (base : ℕ) (xs ys : List Leaf) → Spans cells base (xs ++ ys) → Spans cells base xs
spans_first cells base [] ys h = tt
spans_first cells base (x ∷ xs) ys h = (h.0, spans_first cells (suc base) xs ys h.1)

at_base : (cells : List Leaf) (ls : List Leaf) (a b : ℕ) → a ≡ b → Spans cells a ls → Spans cells b ls
at_base cells ls a b e h = subst (λ n. Spans cells n ls) e h

pub spans_next : (cells : List Leaf) (base : ℕ) (xs ys : List Leaf) → Spans cells base (xs ++ ys) → Spans cells (base + length xs) ys
spans_next cells base [] ys h = at_base cells ys base (base + 0) (omega arith) h
spans_next cells base (x ∷ xs) ys h = at_base cells ys (suc base + length xs) (base + suc (length xs)) (omega arith) (spans_next cells (suc base) xs ys h.1)

pub spans_both : (cells : List Leaf) (base : ℕ) (xs ys : List Leaf) → Spans cells base xs → Spans cells (base + length xs) ys → Spans cells base (xs ++ ys)
spans_both cells base [] ys h k = at_base cells ys (base + 0) base (omega arith) k
spans_both cells base (x ∷ xs) ys h k = (h.0, spans_both cells (suc base) xs ys h.1 (at_base cells ys (base + suc (length xs)) (suc base + length xs) (omega arith) k))

pub unfilled : (cells : List Leaf) (base : ℕ) (ls : List Leaf) → Spans cells base (or_filler ls) → Spans cells base ls
unfilled cells base [] h = tt
unfilled cells base (l ∷ ls) h = h

step : (b k l : ℕ) → b + l + k * l ≡ b + suc k * l
step b k l = let e : suc k * l ≡ k * l + l = suc-mul k l in omega (arith, e)

pub spans_times : (cells : List Leaf) (ls : List Leaf) (base n k : ℕ) → k ≤ n → Spans cells base (times n ls) → Spans cells (base + k * length ls) (times (n - k) ls)
spans_times cells ls base n zero le h = subst (λ m. Spans cells (base + 0 * length ls) (times m ls)) (omega arith) (at_base cells (times n ls) base (base + 0 * length ls) (omega arith) h)
spans_times cells ls base zero (suc k) le h = absurd (omega arith)
spans_times cells ls base (suc n) (suc k) le h =
    subst (λ m. Spans cells (base + suc k * length ls) (times m ls)) (omega arith) (at_base cells (times (n - k) ls) (base + length ls + k * length ls) (base + suc k * length ls) (step base k (length ls))
    (spans_times cells ls (base + length ls) n k (omega arith) (spans_next cells base ls (times n ls) h)))

pub spans_fewer : (cells : List Leaf) (ls : List Leaf) (base n k : ℕ) → k ≤ n → Spans cells base (times n ls) → Spans cells base (times k ls)
spans_fewer cells ls base n zero le h = tt
spans_fewer cells ls base zero (suc k) le h = absurd (omega arith)
spans_fewer cells ls base (suc n) (suc k) le h = spans_both cells base ls (times k ls) (spans_first cells base ls (times n ls) h) (spans_fewer cells ls (base + length ls) n k (omega arith) (spans_next cells base ls (times n ls) h))

pub spans_element : (cells : List Leaf) (ls : List Leaf) (base n k : ℕ) → k < n → Spans cells base (times n ls) → Spans cells (base + k * length ls) ls
spans_element cells ls base zero k lt h = absurd (omega arith)
spans_element cells ls base (suc n) zero lt h = at_base cells ls base (base + 0 * length ls) (omega arith) (spans_first cells base ls (times n ls) h)
spans_element cells ls base (suc n) (suc k) lt h =
    at_base cells ls (base + length ls + k * length ls) (base + suc k * length ls) (step base k (length ls))
    (spans_element cells ls (base + length ls) n k (omega arith) (spans_next cells base ls (times n ls) h))

pub element_first : (cells : List Leaf) (ls : List Leaf) (n k : ℕ) → k < n → Spans cells 0 (times n ls) → Spans cells (k * length ls) ls
element_first cells ls n k lt h = at_base cells ls (0 + k * length ls) (k * length ls) (omega arith) (spans_element cells ls 0 n k lt h)

-- the field with this number lies at its offset
pub record FieldAt (f : ℕ → Shape) (g : ℕ → List Leaf) (fs : Fields) (n : ℕ) (t : Ty) : Type 0 where
  pub offset : ℕ
  pub is_located : nth_part (parts_with f fs) n ≡ located (shape_with f t) offset
  pub spans : (cells : List Leaf) (base : ℕ) → Spans cells base (field_leaves g fs) → Spans cells (base + offset) (leaves_with g t)

some_type : (x y : FieldTy) → Some x ≡ Some y → x.type_ ≡ y.type_
some_type x y e = cc

module _ (f : ℕ → Shape) (g : ℕ → List Leaf) (named_size : (id : ℕ) → size (f id) ≡ length (g id)) where
  pub field_at : (fs : Fields) (n : ℕ) (x : FieldTy) → nth_field fs n ≡ Some x → FieldAt f g fs n x.type_
  field_at no_fields n x e = absurd (cc)
  field_at (more_fields name package_ t embedded tag fs) zero x e =
      subst (λ u. FieldAt f g (more_fields name package_ t embedded tag fs) zero u) (some_type (record { name = name; package_ = package_; type_ = t }) x e)
      (record { offset = 0; is_located = refl; spans = λ cells base h. at_base cells (leaves_with g t) base (base + 0) (omega arith) (spans_first cells base (leaves_with g t) (field_leaves g fs) h) })
  field_at (more_fields name package_ t embedded tag fs) (suc n) x e =
      let i = field_at fs n x e in
      let z = size_with f g named_size t in
      record {
        offset = size (shape_with f t) + i.offset;
        is_located = ap (further (size (shape_with f t))) i.is_located;
        spans = λ cells base h. at_base cells (leaves_with g x.type_) (base + length (leaves_with g t) + i.offset) (base + (size (shape_with f t) + i.offset)) (omega (arith, z))
            (i.spans cells (base + length (leaves_with g t)) (spans_next cells base (leaves_with g t) (field_leaves g fs) h));
      }

-- the offset of a struct's field
pub field_spans : (ns : List NamedTy) (fs : Fields) (n : ℕ) (x : FieldTy) (cells : List Leaf) (base : ℕ) → nth_field fs n ≡ Some x → Spans cells base (leaves_of ns (ty.struct fs))
    → Spans cells (base + offset_in (part_of (shape_of ns (ty.struct fs)) n)) (leaves_of ns x.type_)
field_spans ns fs n x cells base e h =
    let i = field_at (name_shape ns (length ns)) (name_leaves ns (length ns)) (name_size ns (length ns)) fs n x e in
    subst (λ l. Spans cells (base + offset_in l) (leaves_of ns x.type_)) (sym i.is_located)
    (i.spans cells base (unfilled cells base (field_leaves (name_leaves ns (length ns)) fs) h))

pub field_first : (ns : List NamedTy) (fs : Fields) (n : ℕ) (x : FieldTy) (cells : List Leaf) → nth_field fs n ≡ Some x → Spans cells 0 (leaves_of ns (ty.struct fs))
    → Spans cells (offset_in (part_of (shape_of ns (ty.struct fs)) n)) (leaves_of ns x.type_)
field_first ns fs n x cells e h =
    at_base cells (leaves_of ns x.type_) (0 + offset_in (part_of (shape_of ns (ty.struct fs)) n)) (offset_in (part_of (shape_of ns (ty.struct fs)) n)) (omega arith) (field_spans ns fs n x cells 0 e h)
