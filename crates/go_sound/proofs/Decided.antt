-- A row of typed parts is typed or has a fault.
use Rattle.std.proofs.Common.{ℕ, ℤ, pos, negsuc, length, List, [], ◌∷◌, ◌++◌, Bool, true, false, Option, Some, None, Result, Ok, Err, if◌then◌else◌}
use Rattle.gj_base.specs.declared.place.Place.{Place}
use Rattle.gj_base.specs.declared.kind.Kind.{Kind}
use Rattle.gj_base.specs.declared.kind.Kind.TheVariants.{I32}
use Rattle.gj_base.specs.declared.kind.Op.{Op}
use Rattle.gj_base.specs.declared.kind.Op.TheVariants as operator
use Rattle.go_const.specs.declared.constant.Const.{Const}
use Rattle.go_const.specs.declared.constant.Const.TheVariants as form
use Rattle.go_const.specs.declared.constant.Basic.{Basic}
use Rattle.go_const.specs.declared.constant.Basic.TheVariants as basic
use Rattle.go_const.specs.declared.constant.ConstRefusal.{ConstRefusal}
use Rattle.go_const.specs.declared.constant.ConstRefusal.TheVariants.{Code, NoMemory}
use Rattle.go_const.specs.Operation.{is_comparison, whole_of, numeral}
use Rattle.go_const.specs.Representability.{range_code}
use Rattle.go_const.specs.Answer.{holds, settled_of, zero_division, arithmetic_of, arithmetic_answer, number_answer, compares_numbers, with_number, text_answer, unary_answer, binary_answer, shift_of, shifted_by, number_to, conversion_of}
use Rattle.go_type.specs.declared.types.Basis.{Basis}
use Rattle.go_type.specs.Tree as ty
use Rattle.go_type.specs.Tree.{Ty, Tys, no_tys, more_tys}
use Rattle.go_type.specs.Named.{NamedTy}
use Rattle.go_type.specs.Underlying.{underlying}
use Rattle.go_core.specs.SameType.{same_types}
use Rattle.go_core.specs.Layout.{kind_of}
use Rattle.go_core.specs.CoreTree as core
use Rattle.go_typing.specs.Env.{Builtin, Len, Print, Println, int_type, byte_type, name_of_builtin}
use Rattle.go_typing.specs.Answer.{Flaw, Answer, value, pending, untyped_part, bad, bad_name, unless, Part, Pending, fixed, joined, signed}
use Rattle.go_typing.specs.Operand.{Operand, typed, constant_operand, truth_operand, pending_operand, nil_operand, folded, folded_untyped, truth_value, truth_at, is_int, is_bool, is_number, default_type, pending_flaws, pending_at, number_kind}
use Rattle.go_typing.specs.Wanted.{no_type, no_values, operands_of}
use Rattle.go_typing.specs.Unary.{has_operator, constant_has_operator, is_not, unary_value, unary_operand}
use Rattle.go_typing.specs.Shift as shift
use Rattle.go_typing.specs.Shift.{Count, count_of, shift_typed, shift_constant, shift_counted, can_shift, shift_operands, shift_single}
use Rattle.go_typing.specs.Binary as bin
use Rattle.go_typing.specs.Binary.{OpClass, Match, is_add, is_equality, matched, divides_by_zero, integers, texts, sum_of, sum_of_constants, sum_of_numbers, arithmetic, compared, has_comparison, constant_has_comparison, comparison_value, comparison, joined_by, logical_value, logical_constants, logical, on_operands, on_singles}
use Rattle.go_typing.specs.Index as indexes
use Rattle.go_typing.specs.Index.{Indexed, of_text, of_unbuilt, of_other, indexed_of, indexed_flaws, Index, index, no_index, unfit_index, index_of, index_flaws, is_below, byte_at, index_fit, index_single, Edge, edge_flaws, edge_value, edge_bound, past_end, out_of_order, has_edge, slice_text, slice_fit, slice_single}
use Rattle.go_typing.specs.Convert.{converts, is_scalar, converted_constant, converted, conversion_of_all}
use Rattle.go_typing.specs.Call as calls
use Rattle.go_typing.specs.Call.{given, same_count, one_count, only_value, values_at, values_alone, all_printable, all_scalar, ends_line, Given, each, several, no_givens, Values, values, call_value, call_with, print_with, function_given, spread_given, constant_length, length_of_typed, length_of_constant, length_row, length_given, print_given, built_in_call, called_value}

abbrev Decided : Answer → Type 0
Decided untyped_part = ⊥
Decided a = Unit {0}

pub record IsDecided (a : Answer) : Type 0 where
  pub is_decided : Decided a

pub decided : (a : Answer) → Decided a → IsDecided a
decided a h = record { is_decided = h }

pub decided_if : (b : Bool) (x y : Answer) → IsDecided x → IsDecided y → IsDecided (if b then x else y)
decided_if true x y h k = h
decided_if false x y h k = k

decided_unless : (fs : List Flaw) (a : Answer) → IsDecided a → IsDecided (unless fs a)
decided_unless [] a h = h
decided_unless (f ∷ fs) a h = decided _ tt

pub decided_bad : (at : Place) (code : ℕ) → IsDecided (bad at code)
decided_bad at code = decided _ tt

-- ---- constants need no memory in the definition

abbrev Kept : Result Const ConstRefusal → Type 0
Kept (Err NoMemory) = ⊥
Kept (Err (Code n)) = Unit {0}
Kept (Ok k) = Unit {0}

record IsKept (r : Result Const ConstRefusal) : Type 0 where
  pub is_kept : Kept r

kept : (r : Result Const ConstRefusal) → Kept r → IsKept r
kept r h = record { is_kept = h }

kept_if : (b : Bool) (x y : Result Const ConstRefusal) → IsKept x → IsKept y → IsKept (if b then x else y)
kept_if true x y h k = h
kept_if false x y h k = k

settled_kept : (kind : Option Kind) (rune : Bool) (z : ℤ) → IsKept (settled_of kind rune z)
settled_kept kind rune z = kept_if (holds kind z) (Ok (numeral kind rune z)) (Err (Code (range_code kind))) (kept _ tt) (kept _ tt)

unary_kept : (op : Op) (kind : Option Kind) (k : Const) → IsKept (unary_answer op kind k)
unary_kept op kind (form.Bool x) = kept _ tt
unary_kept op kind (form.Int x) = settled_kept kind false _
unary_kept op kind (form.Rune x) = settled_kept kind true _
unary_kept op kind (form.Text x) = kept _ tt

number_kept : (op : Op) (kind : Option Kind) (rune : Bool) (x y : ℤ) → IsKept (number_answer op kind rune x y)
number_kept op kind rune x y =
    kept_if (is_comparison op) (Ok (form.Bool (compares_numbers op x y))) (arithmetic_answer op kind rune x y) (kept _ tt)
    (kept_if (zero_division op y) (Err (Code 30)) (settled_of kind rune (arithmetic_of op x y)) (kept _ tt) (settled_kept kind rune (arithmetic_of op x y)))

with_number_kept : (op : Op) (kind : Option Kind) (rune : Bool) (x : ℤ) (l : Const) → IsKept (with_number op kind rune x l)
with_number_kept op kind rune x (form.Int y) = number_kept op kind rune x y
with_number_kept op kind rune x (form.Rune y) = number_kept op kind true x y
with_number_kept op kind rune x (form.Bool y) = kept _ tt
with_number_kept op kind rune x (form.Text y) = kept _ tt

text_kept : (op : Op) (x y : List ℕ) → IsKept (text_answer op x y)
text_kept operator.Add x y = kept _ tt
text_kept _ x y = kept _ tt

binary_kept : (op : Op) (kind : Option Kind) (k l : Const) → IsKept (binary_answer op kind k l)
binary_kept op kind (form.Bool x) (form.Bool y) = kept _ tt
binary_kept op kind (form.Bool x) (form.Int y) = kept _ tt
binary_kept op kind (form.Bool x) (form.Rune y) = kept _ tt
binary_kept op kind (form.Bool x) (form.Text y) = kept _ tt
binary_kept op kind (form.Int x) l = with_number_kept op kind false x l
binary_kept op kind (form.Rune x) l = with_number_kept op kind true x l
binary_kept op kind (form.Text x) (form.Text y) = text_kept op x y
binary_kept op kind (form.Text x) (form.Bool y) = kept _ tt
binary_kept op kind (form.Text x) (form.Int y) = kept _ tt
binary_kept op kind (form.Text x) (form.Rune y) = kept _ tt

shifted_kept : (op : Op) (kind : Option Kind) (rune : Bool) (x : ℤ) (n : Option ℤ) → IsKept (shifted_by op kind rune x n)
shifted_kept op kind rune x None = kept _ tt
shifted_kept op kind rune x (Some (pos n)) = settled_kept kind rune _
shifted_kept op kind rune x (Some (negsuc n)) = kept _ tt

shift_kept : (op : Op) (kind : Option Kind) (k n : Const) → IsKept (shift_of op kind k n)
shift_kept op kind (form.Int x) n = shifted_kept op kind false x (whole_of n)
shift_kept op kind (form.Rune x) n = shifted_kept op kind true x (whole_of n)
shift_kept op kind (form.Bool x) n = kept _ tt
shift_kept op kind (form.Text x) n = kept _ tt

number_to_kept : (z : ℤ) (b : Basic) → IsKept (number_to z b)
number_to_kept z (basic.Int kind) = settled_kept (Some kind) false z
number_to_kept z _ = kept _ tt

conversion_kept : (k : Const) (b : Basic) → IsKept (conversion_of k b)
conversion_kept (form.Int z) b = number_to_kept z b
conversion_kept (form.Rune z) b = number_to_kept z b
conversion_kept (form.Bool z) b = kept _ tt
conversion_kept (form.Text z) b = kept _ tt

decided_folded : (at : Place) (t : Ty) (r : Result Const ConstRefusal) → IsKept r → IsDecided (folded at t r)
decided_folded at t (Ok k) h = decided _ tt
decided_folded at t (Err (Code n)) h = decided _ tt
decided_folded at t (Err NoMemory) h = absurd h.is_kept

decided_untyped : (at : Place) (r : Result Const ConstRefusal) → IsKept r → IsDecided (folded_untyped at r)
decided_untyped at (Ok k) h = decided _ tt
decided_untyped at (Err (Code n)) h = decided _ tt
decided_untyped at (Err NoMemory) h = absurd h.is_kept

module _ (ns : List NamedTy) where
  -- ---- operators

  unary_value_decided : (at : Place) (op : Op) (c : core.Expr) (t : Ty) (v : Option Const) → IsDecided (unary_value ns at op c t v)
  unary_value_decided at op c t None = decided _ tt
  unary_value_decided at op c t (Some k) = decided_folded at t _ (unary_kept op (number_kind (underlying ns t)) k)

  pub unary_decided : (at : Place) (op : Op) (q : Place) (x : Option Operand) → IsDecided (unary_operand ns at op q x)
  unary_decided at op q None = decided_bad _ _
  unary_decided at op q (Some (typed c t v)) = decided_if (has_operator op (underlying ns t)) _ _ (unary_value_decided at op c t v) (decided_bad at 54)
  unary_decided at op q (Some (constant_operand k)) = decided_if (constant_has_operator op k) _ _ (decided_untyped at _ (unary_kept op None k)) (decided_bad at 54)
  unary_decided at op q (Some (truth_operand c)) = decided_if (is_not op) (truth_value (core.not_ ty.bool c)) (bad at 54) (decided _ tt) (decided_bad at 54)
  unary_decided at op q (Some (pending_operand x b)) =
      decided_if (is_not op) (unless (pending_flaws ns (default_type b) x) (bad at 54)) (pending (signed op x) b) (decided_unless (pending_flaws ns (default_type b) x) (bad at 54) (decided_bad at 54)) (decided _ tt)
  unary_decided at op q (Some nil_operand) = decided_bad _ _

  shift_typed_decided : (at : Place) (op : Op) (t : Ty) (c : core.Expr) (v : Option Const) (d : core.Expr) (w : Option Const) → IsDecided (shift_typed ns at op t c v d w)
  shift_typed_decided at op t c (Some k) d (Some n) = decided_folded at t _ (shift_kept op (number_kind (underlying ns t)) k n)
  shift_typed_decided at op t c (Some k) d None = decided _ tt
  shift_typed_decided at op t c None d w = decided _ tt

  shift_constant_decided : (at : Place) (op : Op) (k : Const) (d : core.Expr) (w : Option Const) → IsDecided (shift_constant ns at op k d w)
  shift_constant_decided at op k d (Some n) = decided_untyped at _ (shift_kept op None k n)
  shift_constant_decided at op k d None = decided _ tt

  shift_counted_decided : (at : Place) (op : Op) (x : Operand) (d : core.Expr) (w : Option Const) → IsDecided (shift_counted ns at op x d w)
  shift_counted_decided at op (typed c t v) d w = decided_if (is_int (underlying ns t)) _ _ (shift_typed_decided at op t c v d w) (decided_bad at 57)
  shift_counted_decided at op (constant_operand k) d w = decided_if (is_number k) _ _ (shift_constant_decided at op k d w) (decided_bad at 57)
  shift_counted_decided at op (truth_operand c) d w = decided_bad _ _
  shift_counted_decided at op (pending_operand x b) d w = decided _ tt
  shift_counted_decided at op nil_operand d w = decided_bad _ _

  shift_operands_decided : (at : Place) (op : Op) (x : Operand) (q : Place) (n : Count) → IsDecided (shift_operands ns at op x q n)
  shift_operands_decided at op x q (shift.counted d w) = shift_counted_decided at op x d w
  shift_operands_decided at op x q shift.negative = decided_if (can_shift ns x) _ _ (decided_bad q 33) (decided_bad at 57)
  shift_operands_decided at op x q shift.no_integer = decided_bad _ _
  shift_operands_decided at op x q (shift.unfit f fs) = decided _ tt

  pub shift_decided : (at : Place) (op : Op) (q : Place) (x : Option Operand) (r : Place) (y : Option Operand) → IsDecided (shift_single ns at op q x r y)
  shift_decided at op q (Some x) r (Some y) = decided_unless (no_type q x) _ (shift_operands_decided at op x r (count_of ns r y))
  shift_decided at op q (Some x) r None = decided _ tt
  shift_decided at op q None r y = decided _ tt

  integers_decided : (at : Place) (op : Op) (t : Ty) (c : core.Expr) (v : Option Const) (d : core.Expr) (w : Option Const) → IsDecided (integers ns at op t c v d w)
  integers_decided at op t c (Some k) d (Some l) = decided_folded at t _ (binary_kept op (number_kind (underlying ns t)) k l)
  integers_decided at op t c (Some k) d None = decided _ tt
  integers_decided at op t c None d w = decided _ tt

  texts_decided : (at : Place) (t : Ty) (c : core.Expr) (v : Option Const) (d : core.Expr) (w : Option Const) → IsDecided (texts ns at t c v d w)
  texts_decided at t c (Some k) d (Some l) = decided_folded at t _ (binary_kept operator.Add None k l)
  texts_decided at t c (Some k) d None = decided _ tt
  texts_decided at t c None d w = decided _ tt

  sum_decided : (at : Place) (op : Op) (q : Place) (u t : Ty) (c : core.Expr) (v : Option Const) (d : core.Expr) (w : Option Const) → IsDecided (sum_of ns at op q u t c v d w)
  sum_decided at op q (ty.int name) t c v d w = decided_if (divides_by_zero ns op w) (bad q 30) (integers ns at op t c v d w) (decided_bad q 30) (integers_decided at op t c v d w)
  sum_decided at op q ty.str t c v d w = decided_if (is_add op) (texts ns at t c v d w) (bad at 55) (texts_decided at t c v d w) (decided_bad at 55)
  sum_decided at op q _ t c v d w = decided_bad _ _

  sum_of_constants_decided : (at : Place) (op : Op) (q : Place) (k l : Const) → IsDecided (sum_of_constants ns at op q k l)
  sum_of_constants_decided at op q (form.Bool b) l = decided_bad _ _
  sum_of_constants_decided at op q (form.Text s) l = decided_if (is_add op) _ (bad at 55) (decided_untyped at _ (binary_kept op None (form.Text s) l)) (decided_bad at 55)
  sum_of_constants_decided at op q (form.Int z) l = decided_if (divides_by_zero ns op (Some l)) (bad q 30) _ (decided_bad q 30) (decided_untyped at _ (binary_kept op None (form.Int z) l))
  sum_of_constants_decided at op q (form.Rune z) l = decided_if (divides_by_zero ns op (Some l)) (bad q 30) _ (decided_bad q 30) (decided_untyped at _ (binary_kept op None (form.Rune z) l))

  sum_of_numbers_decided : (op : Op) (q : Place) (x y : Pending) (b : Basis) → IsDecided (sum_of_numbers ns op q x y b)
  sum_of_numbers_decided op q x (fixed r l) b = decided_if (divides_by_zero ns op (Some l)) (bad q 30) (pending (joined op x (fixed r l)) b) (decided_bad q 30) (decided _ tt)
  sum_of_numbers_decided op q x _ b = decided _ tt

  arithmetic_decided : (at : Place) (op : Op) (q : Place) (m : Match) → IsDecided (arithmetic ns at op q m)
  arithmetic_decided at op q (bin.alike t c v d w) = sum_decided at op q (underlying ns t) t c v d w
  arithmetic_decided at op q (bin.constants k l) = sum_of_constants_decided at op q k l
  arithmetic_decided at op q (bin.truths c d) = decided_bad _ _
  arithmetic_decided at op q (bin.numbers x y b) = sum_of_numbers_decided op q x y b
  arithmetic_decided at op q (bin.unfit f fs) = decided _ tt
  arithmetic_decided at op q bin.differ = decided_bad _ _

  comparison_value_decided : (at : Place) (op : Op) (t : Ty) (c : core.Expr) (v : Option Const) (d : core.Expr) (w : Option Const) → IsDecided (comparison_value ns at op t c v d w)
  comparison_value_decided at op t c (Some k) d (Some l) = decided_untyped at _ (binary_kept op None k l)
  comparison_value_decided at op t c (Some k) d None = decided _ tt
  comparison_value_decided at op t c None d w = decided _ tt

  comparison_decided : (at : Place) (op : Op) (m : Match) → IsDecided (comparison ns at op m)
  comparison_decided at op (bin.alike t c v d w) = decided_if (has_comparison ns op (underlying ns t)) (comparison_value ns at op t c v d w) (bad at 56) (comparison_value_decided at op t c v d w) (decided_bad at 56)
  comparison_decided at op (bin.constants k l) = decided_if (constant_has_comparison ns op k) _ (bad at 56) (decided_untyped at _ (binary_kept op None k l)) (decided_bad at 56)
  comparison_decided at op (bin.truths c d) = decided_if (is_equality op) (truth_value (compared ns op ty.bool c d)) (bad at 56) (decided _ tt) (decided_bad at 56)
  comparison_decided at op (bin.numbers x y b) =
      decided_unless (pending_flaws ns (default_type b) x ++ pending_flaws ns (default_type b) y) (truth_value (compared ns op (default_type b) (pending_at (default_type b) x) (pending_at (default_type b) y))) (decided _ tt)
  comparison_decided at op (bin.unfit f fs) = decided _ tt
  comparison_decided at op bin.differ = decided_bad _ _

  logical_value_decided : (at : Place) (op : Op) (t : Ty) (c : core.Expr) (v : Option Const) (d : core.Expr) (w : Option Const) → IsDecided (logical_value ns at op t c v d w)
  logical_value_decided at op t c (Some k) d (Some l) = decided_folded at t _ (binary_kept op None k l)
  logical_value_decided at op t c (Some k) d None = decided _ tt
  logical_value_decided at op t c None d w = decided _ tt

  logical_constants_decided : (at : Place) (op : Op) (k l : Const) → IsDecided (logical_constants ns at op k l)
  logical_constants_decided at op (form.Bool b) l = decided_untyped at _ (binary_kept op None (form.Bool b) l)
  logical_constants_decided at op _ l = decided_bad _ _

  logical_decided : (at : Place) (op : Op) (m : Match) → IsDecided (logical ns at op m)
  logical_decided at op (bin.alike t c v d w) = decided_if (is_bool (underlying ns t)) (logical_value ns at op t c v d w) (bad at 55) (logical_value_decided at op t c v d w) (decided_bad at 55)
  logical_decided at op (bin.constants k l) = logical_constants_decided at op k l
  logical_decided at op (bin.truths c d) = decided _ tt
  logical_decided at op (bin.numbers x y b) = decided_unless (pending_flaws ns (default_type b) x ++ pending_flaws ns (default_type b) y) (bad at 55) (decided_bad at 55)
  logical_decided at op (bin.unfit f fs) = decided _ tt
  logical_decided at op bin.differ = decided_bad _ _

  pub singles_decided : (class : OpClass) (at : Place) (op : Op) (q : Place) (x : Option Operand) (r : Place) (y : Option Operand) → IsDecided (on_singles ns class at op q x r y)
  singles_decided bin.Arithmetic at op q (Some x) r (Some y) = arithmetic_decided at op r (matched ns false q x r y)
  singles_decided bin.Comparison at op q (Some x) r (Some y) = comparison_decided at op (matched ns true q x r y)
  singles_decided bin.Logical at op q (Some x) r (Some y) = logical_decided at op (matched ns false q x r y)
  singles_decided class at op q (Some x) r None = decided _ tt
  singles_decided class at op q None r y = decided _ tt

  -- ---- indexes and slices

  byte_decided : (q : Place) (c : core.Expr) (limit : Option ℕ) (i : Index) → IsDecided (byte_at q c limit i)
  byte_decided q c limit (index d n) = decided_if (is_below n limit) (value (core.byte_at c d) byte_type None) (bad q 65) (decided _ tt) (decided_bad q 65)
  byte_decided q c limit no_index = decided_bad _ _
  byte_decided q c limit (unfit_index f fs) = decided _ tt

  index_fit_decided : (at : Place) (x : Indexed) (q : Place) (i : Index) → IsDecided (index_fit at x q i)
  index_fit_decided at (of_text c t limit) q i = byte_decided q c limit i
  index_fit_decided at of_unbuilt q i = decided_bad _ _
  index_fit_decided at of_other q i = decided_bad _ _
  index_fit_decided at (indexes.unfit f fs) q i = decided _ tt

  pub index_decided : (at q : Place) (x : Option Operand) (r : Place) (y : Option Operand) → IsDecided (index_single ns at q x r y)
  index_decided at q (Some x) r (Some y) =
      decided_unless (indexed_flaws (indexed_of ns q x) ++ index_flaws (index_of ns r y)) (index_fit at (indexed_of ns q x) r (index_of ns r y)) (index_fit_decided at (indexed_of ns q x) r (index_of ns r y))
  index_decided at q (Some x) r None = decided _ tt
  index_decided at q None r y = decided _ tt

  slice_fit_decided : (at : Place) (x : Indexed) (low high most : Edge) → IsDecided (slice_fit at x low high most)
  slice_fit_decided at (of_text c t limit) low high most =
      decided_if (has_edge most) (bad at 64) (slice_text c t limit low high) (decided_bad at 64)
      (decided_unless (past_end limit low ++ past_end limit high) _ (decided_unless (out_of_order (edge_value low) high) (value (core.slice_of t t c (edge_bound low) (edge_bound high) core.no_bound) t None) (decided _ tt)))
  slice_fit_decided at of_unbuilt low high most = decided_bad _ _
  slice_fit_decided at of_other low high most = decided_bad _ _
  slice_fit_decided at (indexes.unfit f fs) low high most = decided _ tt

  pub slice_decided : (at q : Place) (x : Option Operand) (fs : List Flaw) (low high most : Edge) → IsDecided (slice_single ns at q x fs low high most)
  slice_decided at q (Some x) [] low high most =
      decided_unless (indexed_flaws (indexed_of ns q x) ++ edge_flaws low ++ edge_flaws high ++ edge_flaws most) (slice_fit at (indexed_of ns q x) low high most) (slice_fit_decided at (indexed_of ns q x) low high most)
  slice_decided at q (Some x) (f ∷ fs) low high most = decided _ tt
  slice_decided at q None fs low high most = decided _ tt

  -- ---- conversions and calls

  converted_constant_decided : (at q : Place) (t u : Ty) (k : Const) → IsDecided (converted_constant at q t u k)
  converted_constant_decided at q t ty.bool (form.Bool b) = decided_folded q t _ (conversion_kept (form.Bool b) basic.Bool)
  converted_constant_decided at q t ty.str (form.Text s) = decided_folded q t _ (conversion_kept (form.Text s) basic.Str)
  converted_constant_decided at q t ty.str (form.Int z) = decided_folded q t _ (conversion_kept (form.Int z) basic.Str)
  converted_constant_decided at q t ty.str (form.Rune z) = decided_folded q t _ (conversion_kept (form.Rune z) basic.Str)
  converted_constant_decided at q t (ty.int name) (form.Int z) = decided_folded q t _ (conversion_kept (form.Int z) (basic.Int (kind_of name)))
  converted_constant_decided at q t (ty.int name) (form.Rune z) = decided_folded q t _ (conversion_kept (form.Rune z) (basic.Int (kind_of name)))
  converted_constant_decided at q t _ k = decided_bad _ _

  converted_decided : (at : Place) (t : Ty) (q : Place) (x : Operand) → IsDecided (converted ns at t q x)
  converted_decided at t q (typed c u None) = decided_if (converts (underlying ns u) (underlying ns t)) (value (core.convert u t c) t None) (bad at 58) (decided _ tt) (decided_bad at 58)
  converted_decided at t q (typed c u (Some l)) = converted_constant_decided at q t (underlying ns t) l
  converted_decided at t q (constant_operand l) = converted_constant_decided at q t (underlying ns t) l
  converted_decided at t q (truth_operand c) = decided_if (is_bool (underlying ns t)) (value (truth_at t c) t None) (bad at 58) (decided _ tt) (decided_bad at 58)
  converted_decided at t q (pending_operand x b) = decided_unless (pending_flaws ns t x) (value (pending_at t x) t None) (decided _ tt)
  converted_decided at t q nil_operand = decided_bad _ _

  conversion_all_decided : (at : Place) (t : Ty) (xs : List (Place × Operand)) → IsDecided (conversion_of_all ns at t xs)
  conversion_all_decided at t [] = decided_bad _ _
  conversion_all_decided at t (x ∷ []) = decided_if (is_scalar (underlying ns t)) (converted ns at t x.0 x.1) (bad at 0) (converted_decided at t x.0 x.1) (decided_bad at 0)
  conversion_all_decided at t (x ∷ y ∷ ys) = decided_bad _ _

  pub conversion_decided : (at : Place) (t : Ty) (spread : Bool) (xs : List Part) → IsDecided (unless (no_values xs) (if spread then bad at 60 else conversion_of_all ns at t (operands_of xs)))
  conversion_decided at t spread xs = decided_unless (no_values xs) _ (decided_if spread (bad at 60) (conversion_of_all ns at t (operands_of xs)) (decided_bad at 60) (conversion_all_decided at t (operands_of xs)))

  call_value_decided : (rs : Tys) (c : core.Expr) → IsDecided (call_value rs c)
  call_value_decided no_tys c = decided _ tt
  call_value_decided (more_tys t no_tys) c = decided _ tt
  call_value_decided (more_tys t (more_tys u us)) c = decided _ tt

  call_with_decided : (id : ℕ) (rs : Tys) (vs : Values) → IsDecided (call_with id rs vs)
  call_with_decided id rs (values es) = call_value_decided rs (core.call rs (core.function id) es)
  call_with_decided id rs (calls.unfit f fs) = decided _ tt

  pub function_given_decided : (at : Place) (id : ℕ) (ps rs : Tys) (g : Given) → IsDecided (function_given ns at id ps rs g)
  function_given_decided at id ps rs (each xs) = decided_if (same_count ps xs) (call_with id rs (values_at ns ps xs)) (bad at 60) (call_with_decided id rs (values_at ns ps xs)) (decided_bad at 60)
  function_given_decided at id ps rs (several q c ts) =
      decided_if (one_count ps ts) _ (bad at 60) (decided_if (same_types ps ts) (call_with id rs (values (only_value c))) (bad q 61) (call_with_decided id rs (values (only_value c))) (decided_bad q 61)) (decided_bad at 60)
  function_given_decided at id ps rs (no_givens f fs) = decided _ tt

  pub spread_decided : (at : Place) (g : Given) → IsDecided (spread_given ns at g)
  spread_decided at (no_givens f fs) = decided _ tt
  spread_decided at (each xs) = decided_bad _ _
  spread_decided at (several q c ts) = decided_bad _ _

  constant_length_decided : (at : Place) (bytes : List ℕ) → IsDecided (constant_length at bytes)
  constant_length_decided at bytes = decided_folded at int_type _ (settled_kept (Some I32) false (pos (length bytes)))

  length_typed_decided : (at : Place) (c : core.Expr) (t u : Ty) (v : Option Const) → IsDecided (length_of_typed ns at c t u v)
  length_typed_decided at c t ty.str (Some (form.Text s)) = constant_length_decided at s
  length_typed_decided at c t ty.str (Some (form.Bool b)) = decided _ tt
  length_typed_decided at c t ty.str (Some (form.Int z)) = decided _ tt
  length_typed_decided at c t ty.str (Some (form.Rune z)) = decided _ tt
  length_typed_decided at c t ty.str None = decided _ tt
  length_typed_decided at c t _ v = decided _ tt

  length_constant_decided : (at : Place) (k : Const) → IsDecided (length_of_constant ns at k)
  length_constant_decided at (form.Text s) = constant_length_decided at s
  length_constant_decided at _ = decided _ tt

  length_decided : (at q : Place) (x : Operand) → IsDecided (length_row ns at q x)
  length_decided at q (typed c t v) = length_typed_decided at c t (underlying ns t) v
  length_decided at q (constant_operand k) = length_constant_decided at k
  length_decided at q (truth_operand c) = decided _ tt
  length_decided at q (pending_operand x b) = decided_unless (pending_flaws ns (default_type b) x) (bad_name at 72 (name_of_builtin Len)) (decided _ tt)
  length_decided at q nil_operand = decided_bad _ _

  length_given_decided : (at : Place) (g : Given) → IsDecided (length_given ns at g)
  length_given_decided at (each []) = decided_bad _ _
  length_given_decided at (each (x ∷ [])) = length_decided at x.0 x.1
  length_given_decided at (each (x ∷ y ∷ ys)) = decided_bad _ _
  length_given_decided at (several q c ts) = decided_bad _ _
  length_given_decided at (no_givens f fs) = decided _ tt

  print_with_decided : (ends : Bool) (vs : Values) → IsDecided (print_with ends vs)
  print_with_decided ends (values es) = decided _ tt
  print_with_decided ends (calls.unfit f fs) = decided _ tt

  print_decided : (at : Place) (b : Builtin) (g : Given) → IsDecided (print_given ns at b g)
  print_decided at b (each xs) = decided_if (all_printable ns xs) (print_with (ends_line b) (values_alone ns xs)) (bad_name at 72 (name_of_builtin b)) (print_with_decided (ends_line b) (values_alone ns xs)) (decided _ tt)
  print_decided at b (several q c ts) = decided_if (all_scalar ns ts) (print_with (ends_line b) (values (only_value c))) (bad_name at 72 (name_of_builtin b)) (print_with_decided (ends_line b) (values (only_value c))) (decided _ tt)
  print_decided at b (no_givens f fs) = decided _ tt

  pub built_in_call_decided : (at : Place) (b : Builtin) (g : Given) → IsDecided (built_in_call ns at b g)
  built_in_call_decided at Len g = length_given_decided at g
  built_in_call_decided at Print g = print_decided at Print g
  built_in_call_decided at Println g = print_decided at Println g
  built_in_call_decided at _ g = decided_bad _ _

  pub called_value_decided : (at q : Place) (u : Ty) → IsDecided (called_value ns at q u)
  called_value_decided at q (ty.func ps rs v) = decided_bad _ _
  called_value_decided at q (ty.tuple ts) = decided_bad _ _
  called_value_decided at q _ = decided_bad _ _

  pub pending_called : (q : Place) (x : Pending) (b : Basis) → IsDecided (unless (pending_flaws ns (default_type b) x) (bad q 59))
  pending_called q x b = decided_unless (pending_flaws ns (default_type b) x) (bad q 59) (decided_bad q 59)
