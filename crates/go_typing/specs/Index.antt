-- Indexes and slices, of strings. Go specification (as of Go 1.17), "Index expressions", "Slice expressions".
use Rattle.std.specs.Prelude.{ℕ, ℤ, pos, nat_le, nat_lt, length, List, [], ◌∷◌, ◌++◌, Bool, true, false, ◌&&◌, if◌then◌else◌, Option, Some, None}
use Rattle.gj_base.specs.declared.place.Place.{Place}
use Rattle.gj_base.specs.declared.kind.Kind.TheVariants.{I32}
use Rattle.go_const.specs.declared.constant.Const.{Const}
use Rattle.go_const.specs.declared.constant.Const.TheVariants as form
use Rattle.go_const.specs.Operation.{whole_of}
use Rattle.go_const.specs.Answer.{holds}
use Rattle.go_type.specs.Tree as ty
use Rattle.go_type.specs.Tree.{Ty}
use Rattle.go_type.specs.Named.{NamedTy}
use Rattle.go_type.specs.Underlying.{underlying}
use Rattle.go_core.specs.CoreTree as core
use Rattle.go_core.specs.CoreTree.{Expr, Bound, no_bound, bound}
use Rattle.go_typing.specs.Env.{int_type, byte_type}
use Rattle.go_typing.specs.Answer.{Flaw, flaw, Answer, value, wrong, bad, unless, where_known, is_known, Part}
use Rattle.go_typing.specs.Operand.{Operand, typed, constant_operand, truth_operand, pending_operand, nil_operand, single, constant_at, is_int, default_type, pending_flaws, pending_at}
use Rattle.go_typing.specs.Wanted.{no_value}

-- ---- what is indexed or sliced

pub data Indexed : Type 0 where
  -- a string, its type, and the length of a constant one
  of_text : Expr → Ty → Option ℕ → Indexed
  -- own: a type whose rows are not built yet
  of_unbuilt : Indexed
  of_other : Indexed
  unfit : Flaw → List Flaw → Indexed

abbrev pub length_of : Option Const → Option ℕ
length_of (Some (form.Text s)) = Some (length s)
length_of _ = None

abbrev pub indexed_typed : Ty → Expr → Ty → Option Const → Indexed
indexed_typed ty.str c t v = of_text c t (length_of v)
indexed_typed (ty.array n e) c t v = of_unbuilt
indexed_typed (ty.slice e) c t v = of_unbuilt
indexed_typed (ty.pointer e) c t v = of_unbuilt
indexed_typed (ty.mapping k e) c t v = of_unbuilt
indexed_typed _ c t v = of_other

abbrev pub indexed_constant : Const → Indexed
indexed_constant (form.Text s) = of_text (constant_at ty.str (form.Text s)) ty.str (Some (length s))
indexed_constant k = of_other

abbrev pub other_unless : List Flaw → Indexed
other_unless [] = of_other
other_unless (f ∷ fs) = unfit f fs

-- ---- an index or a bound

pub data Index : Type 0 where
  -- with its value where it is a constant
  index : Expr → Option ℕ → Index
  -- no integer, or a constant that is negative or greater than each `int`
  no_index : Index
  unfit_index : Flaw → List Flaw → Index

abbrev pub whole_index : Expr → Option ℤ → Index
whole_index c (Some (pos n)) = if holds (Some I32) (pos n) then index c (Some n) else no_index
whole_index c _ = no_index

abbrev pub known_index : Expr → Option Const → Index
known_index c None = index c None
known_index c (Some k) = whole_index c (whole_of k)

abbrev pub fit_index : List Flaw → Expr → Index
fit_index [] c = index c None
fit_index (f ∷ fs) c = unfit_index f fs

-- how many values a constant index may have: those below the length of a constant string
abbrev pub is_below : Option ℕ → Option ℕ → Bool
is_below (Some n) (Some limit) = nat_lt n limit
is_below _ _ = true

module _ (ns : List NamedTy) where
  abbrev pub indexed_of : Place → Operand → Indexed
  indexed_of at (typed c t v) = indexed_typed (underlying ns t) c t v
  indexed_of at (constant_operand k) = indexed_constant k
  indexed_of at (truth_operand c) = of_other
  indexed_of at (pending_operand p b) = other_unless (pending_flaws ns (default_type b) p)
  indexed_of at nil_operand = unfit (flaw at 73) []

  -- own: an untyped index takes `int`
  abbrev pub index_of : Place → Operand → Index
  index_of at (typed c t v) = if is_int (underlying ns t) then known_index c v else no_index
  index_of at (constant_operand k) = whole_index (constant_at int_type k) (whole_of k)
  index_of at (truth_operand c) = no_index
  index_of at (pending_operand p b) = fit_index (pending_flaws ns int_type p) (pending_at int_type p)
  index_of at nil_operand = unfit_index (flaw at 73) []

abbrev pub indexed_flaws : Indexed → List Flaw
indexed_flaws (unfit f fs) = f ∷ fs
indexed_flaws _ = []

abbrev pub index_flaws : Index → List Flaw
index_flaws (unfit_index f fs) = f ∷ fs
index_flaws _ = []

-- ---- indexes

abbrev pub byte_at : Place → Expr → Option ℕ → Index → Answer
byte_at q c limit (index d n) = if is_below n limit then value (core.byte_at c d) byte_type None else bad q 65
byte_at q c limit no_index = bad q 65
byte_at q c limit (unfit_index f fs) = wrong f fs

abbrev pub index_fit : Place → Indexed → Place → Index → Answer
index_fit at (of_text c t limit) q i = byte_at q c limit i
index_fit at of_unbuilt q i = bad at 0
index_fit at of_other q i = bad at 64
index_fit at (unfit f fs) q i = wrong f fs

abbrev pub index_known : Place → Indexed → Place → Index → Answer
index_known at x q i = unless (indexed_flaws x ++ index_flaws i) (index_fit at x q i)

-- ---- slices

-- a bound with its place, if there is one
pub data Edge : Type 0 where
  no_edge : Edge
  edge : Place → Index → Edge

abbrev pub edge_flaws : Edge → List Flaw
edge_flaws no_edge = []
edge_flaws (edge q i) = index_flaws i

-- how great a constant bound may be: the length of a constant string
abbrev pub is_within : Option ℕ → Option ℕ → Bool
is_within (Some n) (Some limit) = nat_le n limit
is_within _ _ = true

-- no index, or past the end of a constant string (65)
abbrev pub past_end : Option ℕ → Edge → List Flaw
past_end limit no_edge = []
past_end limit (edge q (index d n)) = if is_within n limit then [] else flaw q 65 ∷ []
past_end limit (edge q no_index) = flaw q 65 ∷ []
past_end limit (edge q (unfit_index f fs)) = []

abbrev pub edge_value : Edge → Option ℕ
edge_value (edge q (index d n)) = n
edge_value _ = None

-- own: of constant bounds out of order, the later one (65)
abbrev pub out_of_order : Option ℕ → Edge → List Flaw
out_of_order (Some m) (edge q (index d (Some n))) = if nat_lt n m then flaw q 65 ∷ [] else []
out_of_order m e = []

abbrev pub edge_bound : Edge → Bound
edge_bound (edge q (index d n)) = bound d
edge_bound _ = no_bound

abbrev pub slice_text : Expr → Ty → Option ℕ → Edge → Edge → Answer
slice_text c t limit low high =
    unless (past_end limit low ++ past_end limit high)
    (unless (out_of_order (edge_value low) high) (value (core.slice_of t t c (edge_bound low) (edge_bound high) no_bound) t None))

abbrev pub has_edge : Edge → Bool
has_edge no_edge = false
has_edge (edge q i) = true

-- a string has no slices with three bounds (64)
abbrev pub slice_fit : Place → Indexed → Edge → Edge → Edge → Answer
slice_fit at (of_text c t limit) low high most = if has_edge most then bad at 64 else slice_text c t limit low high
slice_fit at of_unbuilt low high most = bad at 0
slice_fit at of_other low high most = bad at 64
slice_fit at (unfit f fs) low high most = wrong f fs

abbrev pub slice_known : Place → Indexed → Edge → Edge → Edge → Answer
slice_known at x low high most =
    unless (indexed_flaws x ++ edge_flaws low ++ edge_flaws high ++ edge_flaws most) (slice_fit at x low high most)

-- ---- the rows

-- a bound, if there is one
abbrev pub is_known_bound : Option Part → Bool
is_known_bound None = true
is_known_bound (Some x) = is_known x.answer

abbrev pub bound_no_value : Option Part → List Flaw
bound_no_value None = []
bound_no_value (Some x) = no_value x.place (single x.answer)

module _ (ns : List NamedTy) where
  abbrev pub edge_at : Place → Option Operand → Edge
  edge_at q None = no_edge
  edge_at q (Some y) = edge q (index_of ns q y)

  abbrev pub edge_of : Option Part → Edge
  edge_of None = no_edge
  edge_of (Some x) = edge_at x.place (single x.answer)

  abbrev pub index_single : Place → Place → Option Operand → Place → Option Operand → Answer
  index_single at p (Some x) q (Some y) = index_known at (indexed_of ns p x) q (index_of ns q y)
  index_single at p x q y = unless (no_value p x ++ no_value q y) (bad at 64)

  -- a byte of a string (64; 65 at the index)
  abbrev pub index_row : Place → Part → Part → Answer
  index_row at x y = where_known (is_known x.answer && is_known y.answer) (index_single at x.place (single x.answer) y.place (single y.answer))

  abbrev pub slice_single : Place → Place → Option Operand → List Flaw → Edge → Edge → Edge → Answer
  slice_single at p (Some x) [] low high most = slice_known at (indexed_of ns p x) low high most
  slice_single at p x fs low high most = unless (no_value p x ++ fs) (bad at 64)

  -- of the operand's type, `string` for an untyped string (64; 65 at a bound)
  abbrev pub slice_row : Place → Part → Option Part → Option Part → Option Part → Answer
  slice_row at x low high most =
      where_known (is_known x.answer && is_known_bound low && is_known_bound high && is_known_bound most)
      (slice_single at x.place (single x.answer) (bound_no_value low ++ bound_no_value high ++ bound_no_value most) (edge_of low) (edge_of high) (edge_of most))
