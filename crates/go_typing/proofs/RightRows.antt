-- Answers whose cores give what the answers say: the other rows.
use Rattle.std.proofs.Common.{◌≡◌, ℕ, List, [], ◌∷◌, ◌++◌, ◌&&◌, refl, IsTrue, Bool, true, false, Option, Some, None, if◌then◌else◌}
use Rattle.gj_base.specs.declared.place.Place.{Place}
use Rattle.gj_base.specs.declared.kind.Op.{Op}
use Rattle.gj_base.specs.declared.kind.Op.TheVariants as operator
use Rattle.go_const.specs.declared.constant.Const.{Const}
use Rattle.go_const.specs.declared.constant.Const.TheVariants as form
use Rattle.go_const.specs.Answer.{binary_answer, conversion_of}
use Rattle.go_const.specs.declared.constant.Basic.TheVariants as basic
use Rattle.go_core.specs.Layout.{kind_of}
use Rattle.go_type.specs.declared.types.Basis.{Basis}
use Rattle.go_type.specs.Tree as ty
use Rattle.go_type.specs.Tree.{Ty, Tys, no_tys, more_tys}
use Rattle.go_type.specs.Named.{NamedTy}
use Rattle.go_type.specs.Underlying.{underlying}
use Rattle.go_core.specs.SameType.{same_type, same_types}
use Rattle.go_core.specs.CoreTree as core
use Rattle.go_core.specs.TypeOf.{types_of}
use Rattle.go_typing.specs.Answer.{Flaw, Answer, value, pending, type_, package_, built_in, blank, does, wrong, untyped_part, bad, bad_name, Pending, fixed, joined, all_known, Part}
use Rattle.go_typing.specs.Operand.{folded_untyped, truth_value, is_bool, is_number, Operand, typed, constant_operand, truth_operand, pending_operand, nil_operand, truth_at, pending_at, pending_flaws, default_type, Passed, passed, refused, unassignable, as_type, goes_to}
use Rattle.go_typing.specs.Env.{Builtin, Len, Print, Println, int_type, byte_type, name_of_builtin}
use Rattle.go_typing.specs.Binary.{is_add, is_equality, divides_by_zero, has_comparison, constant_has_comparison, OpClass, Arithmetic, Comparison, Logical, Match, one_kind, alike, constants, truths, numbers, unfit, differ, truth_beside, beside_truth, unless_unfit, right_taken, left_taken, pending_differs, pending_beside, constant_beside, beside_other_truth, two_untyped, two_typed, typed_beside, untyped_beside, matched, integers, texts, sum_of, sum_of_constants, sum_of_numbers, arithmetic, compared, comparison_value, comparison, joined_by, logical_value, logical_constants, logical, on_operands, on_singles}
use Rattle.go_typing.specs.Index.{indexed_flaws, index_flaws, index_of, is_below, past_end, out_of_order, edge_value, edge_bound, edge_flaws, has_edge, Indexed, of_text, of_unbuilt, of_other, Index, index, no_index, unfit_index, indexed_typed, indexed_constant, indexed_of, other_unless, byte_at, index_fit, index_single, Edge, no_edge, edge, slice_text, slice_fit, slice_single}
use Rattle.go_typing.specs.Index as indexes
use Rattle.go_typing.specs.Convert.{converts, is_scalar, converted_constant, converted, conversion_of_all, conversion_row}
use Rattle.go_typing.specs.Call.{given, same_count, one_count, only_value, values_at, values_alone, all_printable, all_scalar, ends_line, Given, each, several, no_givens, Values, values, call_value, call_with, print_with, function_given, spread_given, function_row, constant_length, length_of_typed, length_of_constant, length_row, length_given, print_given, built_in_call, built_in_row, called_value, called_known, called_row, is_built}
use Rattle.go_typing.specs.Call as calls
use Rattle.go_typing.specs.Wanted.{no_values, operands_of}
use Rattle.go_typing.specs.TypesFit.{is_single, all_single}
use Rattle.go_typing.proofs.RightWords.{IsRight, right, OperandFits, right_if, right_unless, right_known, right_folded, right_untyped, pending_types, truth_types, right_value, right_bad}

module _ (ns : List NamedTy) where
  -- ---- both operands at one type

  abbrev MatchFits : Match → Type 0
  MatchFits (alike t c v d w) = IsTrue (is_single t)
  MatchFits _ = Unit {0}

  record IsRightMatch (m : Match) : Type 0 where
    pub fits : MatchFits m

  matches : (m : Match) → MatchFits m → IsRightMatch m
  matches m h = record { fits = h }

  match_if : (b : Bool) (x y : Match) → IsRightMatch x → IsRightMatch y → IsRightMatch (if b then x else y)
  match_if true x y p q = p
  match_if false x y p q = q

  match_unless : (fs : List Flaw) (m : Match) → IsRightMatch m → IsRightMatch (unless_unfit fs m)
  match_unless [] m p = p
  match_unless (f ∷ fs) m p = matches _ tt

  right_taken_fits : (t : Ty) (c : core.Expr) (v : Option Const) (x : Passed) → IsTrue (is_single t) → IsRightMatch (right_taken t c v x)
  right_taken_fits t c v (passed d w) h = matches _ h
  right_taken_fits t c v (refused f fs) h = matches _ tt
  right_taken_fits t c v unassignable h = matches _ tt

  left_taken_fits : (x : Passed) (u : Ty) (d : core.Expr) (w : Option Const) → IsTrue (is_single u) → IsRightMatch (left_taken x u d w)
  left_taken_fits (passed c v) u d w h = matches _ h
  left_taken_fits (refused f fs) u d w h = matches _ tt
  left_taken_fits unassignable u d w h = matches _ tt

  pending_differs_fits : (p : Pending) (b : Basis) → IsRightMatch (pending_differs ns p b)
  pending_differs_fits p b = match_unless (pending_flaws ns (default_type b) p) differ (matches _ tt)

  pending_beside_fits : (p : Pending) (b : Basis) (q : Place) (y : Operand) → IsRightMatch (pending_beside ns p b q y)
  pending_beside_fits p b q (typed d u w) = matches _ tt
  pending_beside_fits p b q (constant_operand l) = match_if (is_number l) _ _ (matches _ tt) (pending_differs_fits p b)
  pending_beside_fits p b q (truth_operand d) = pending_differs_fits p b
  pending_beside_fits p b q (pending_operand r e) = matches _ tt
  pending_beside_fits p b q nil_operand = matches _ tt

  truth_beside_fits : (k : Const) (d : core.Expr) → IsRightMatch (truth_beside k d)
  truth_beside_fits (form.Bool b) d = matches _ tt
  truth_beside_fits _ d = matches _ tt

  beside_truth_fits : (c : core.Expr) (k : Const) → IsRightMatch (beside_truth c k)
  beside_truth_fits c (form.Bool b) = matches _ tt
  beside_truth_fits c _ = matches _ tt

  constant_beside_fits : (p : Place) (k : Const) (y : Operand) → IsRightMatch (constant_beside ns p k y)
  constant_beside_fits p k (typed d u w) = matches _ tt
  constant_beside_fits p k (constant_operand l) = match_if (one_kind k l) (constants k l) differ (matches _ tt) (matches _ tt)
  constant_beside_fits p k (truth_operand d) = truth_beside_fits k d
  constant_beside_fits p k (pending_operand r e) = match_if (is_number k) _ _ (matches _ tt) (pending_differs_fits r e)
  constant_beside_fits p k nil_operand = matches _ tt

  other_truth_fits : (c : core.Expr) (y : Operand) → IsRightMatch (beside_other_truth ns c y)
  other_truth_fits c (typed d u w) = matches _ tt
  other_truth_fits c (constant_operand l) = beside_truth_fits c l
  other_truth_fits c (truth_operand d) = matches _ tt
  other_truth_fits c (pending_operand r e) = pending_differs_fits r e
  other_truth_fits c nil_operand = matches _ tt

  two_untyped_fits : (p : Place) (x : Operand) (q : Place) (y : Operand) → IsRightMatch (two_untyped ns p x q y)
  two_untyped_fits p (typed c t v) q y = matches _ tt
  two_untyped_fits p (constant_operand k) q y = constant_beside_fits p k y
  two_untyped_fits p (truth_operand c) q y = other_truth_fits c y
  two_untyped_fits p (pending_operand x b) q y = pending_beside_fits x b q y
  two_untyped_fits p nil_operand q y = matches _ tt

  two_typed_fits : (compares : Bool) (c : core.Expr) (t : Ty) (v : Option Const) (d : core.Expr) (u : Ty) (w : Option Const) → IsTrue (is_single t) → IsTrue (is_single u) → IsRightMatch (two_typed ns compares c t v d u w)
  two_typed_fits compares c t v d u w h k =
      match_if (same_type t u) (alike t c v d w) _ (matches _ h)
      (match_if (compares && goes_to ns t u) (alike u (as_type c t u) v d w) _ (matches _ k)
      (match_if (compares && goes_to ns u t) (alike t c v (as_type d u t) w) differ (matches _ h) (matches _ tt)))

  typed_beside_fits : (compares : Bool) (c : core.Expr) (t : Ty) (v : Option Const) (q : Place) (y : Operand) → IsTrue (is_single t) → OperandFits ns (Some y) → IsRightMatch (typed_beside ns compares c t v q y)
  typed_beside_fits compares c t v q (typed d u w) h k = two_typed_fits compares c t v d u w h k
  typed_beside_fits compares c t v q (constant_operand l) h k = right_taken_fits t c v _ h
  typed_beside_fits compares c t v q (truth_operand d) h k = right_taken_fits t c v _ h
  typed_beside_fits compares c t v q (pending_operand r e) h k = right_taken_fits t c v _ h
  typed_beside_fits compares c t v q nil_operand h k = right_taken_fits t c v _ h

  untyped_beside_fits : (p : Place) (x : Operand) (q : Place) (y : Operand) → OperandFits ns (Some y) → IsRightMatch (untyped_beside ns p x q y)
  untyped_beside_fits p x q (typed d u w) k = left_taken_fits _ u d w k
  untyped_beside_fits p x q (constant_operand l) k = match_unless _ _ (two_untyped_fits p x q (constant_operand l))
  untyped_beside_fits p x q (truth_operand d) k = match_unless _ _ (two_untyped_fits p x q (truth_operand d))
  untyped_beside_fits p x q (pending_operand r e) k = match_unless _ _ (two_untyped_fits p x q (pending_operand r e))
  untyped_beside_fits p x q nil_operand k = match_unless _ _ (two_untyped_fits p x q nil_operand)

  matched_fits : (compares : Bool) (p : Place) (x : Operand) (q : Place) (y : Operand) → OperandFits ns (Some x) → OperandFits ns (Some y) → IsRightMatch (matched ns compares p x q y)
  matched_fits compares p (typed c t v) q y h k = typed_beside_fits compares c t v q y h k
  matched_fits compares p (constant_operand l) q y h k = untyped_beside_fits p (constant_operand l) q y k
  matched_fits compares p (truth_operand c) q y h k = untyped_beside_fits p (truth_operand c) q y k
  matched_fits compares p (pending_operand x b) q y h k = untyped_beside_fits p (pending_operand x b) q y k
  matched_fits compares p nil_operand q y h k = untyped_beside_fits p nil_operand q y k

  -- ---- arithmetic

  integers_right : (at : Place) (op : Op) (t : Ty) (c : core.Expr) (v : Option Const) (d : core.Expr) (w : Option Const) → IsTrue (is_single t) → IsRight ns (integers ns at op t c v d w)
  integers_right at op t c (Some k) d (Some l) h = right_folded ns at t _ h
  integers_right at op t c (Some k) d None h = right_value ns _ t h refl
  integers_right at op t c None d w h = right_value ns _ t h refl

  texts_right : (at : Place) (t : Ty) (c : core.Expr) (v : Option Const) (d : core.Expr) (w : Option Const) → IsTrue (is_single t) → IsRight ns (texts ns at t c v d w)
  texts_right at t c (Some k) d (Some l) h = right_folded ns at t _ h
  texts_right at t c (Some k) d None h = right_value ns _ t h refl
  texts_right at t c None d w h = right_value ns _ t h refl

  sum_right : (at : Place) (op : Op) (q : Place) (u t : Ty) (c : core.Expr) (v : Option Const) (d : core.Expr) (w : Option Const) → IsTrue (is_single t) → IsRight ns (sum_of ns at op q u t c v d w)
  sum_right at op q (ty.int name) t c v d w h = right_if ns (divides_by_zero ns op w) (bad q 30) (integers ns at op t c v d w) (right_bad ns q 30) (integers_right at op t c v d w h)
  sum_right at op q ty.str t c v d w h = right_if ns (is_add op) (texts ns at t c v d w) (bad at 55) (texts_right at t c v d w h) (right_bad ns at 55)
  sum_right at op q _ t c v d w h = right_bad ns _ _

  sum_of_constants_right : (at : Place) (op : Op) (q : Place) (k l : Const) → IsRight ns (sum_of_constants ns at op q k l)
  sum_of_constants_right at op q (form.Bool b) l = right_bad ns _ _
  sum_of_constants_right at op q (form.Text s) l = right_if ns (is_add op) (folded_untyped at (binary_answer op None (form.Text s) l)) (bad at 55) (right_untyped ns at _) (right_bad ns at 55)
  sum_of_constants_right at op q (form.Int z) l =
      right_if ns (divides_by_zero ns op (Some l)) (bad q 30) (folded_untyped at (binary_answer op None (form.Int z) l)) (right_bad ns q 30) (right_untyped ns at _)
  sum_of_constants_right at op q (form.Rune z) l =
      right_if ns (divides_by_zero ns op (Some l)) (bad q 30) (folded_untyped at (binary_answer op None (form.Rune z) l)) (right_bad ns q 30) (right_untyped ns at _)

  sum_of_numbers_right : (op : Op) (q : Place) (x y : Pending) (b : Basis) → IsRight ns (sum_of_numbers ns op q x y b)
  sum_of_numbers_right op q x (fixed r l) b =
      right_if ns (divides_by_zero ns op (Some l)) (bad q 30) (pending (joined op x (fixed r l)) b) (right_bad ns q 30) (right ns _ tt)
  sum_of_numbers_right op q x _ b = right ns _ tt

  arithmetic_right : (at : Place) (op : Op) (q : Place) (m : Match) → MatchFits m → IsRight ns (arithmetic ns at op q m)
  arithmetic_right at op q (alike t c v d w) h = sum_right at op q (underlying ns t) t c v d w h
  arithmetic_right at op q (constants k l) h = sum_of_constants_right at op q k l
  arithmetic_right at op q (truths c d) h = right_bad ns _ _
  arithmetic_right at op q (numbers x y b) h = sum_of_numbers_right op q x y b
  arithmetic_right at op q (unfit f fs) h = right ns _ tt
  arithmetic_right at op q differ h = right_bad ns _ _

  -- ---- comparisons

  compared_types : (op : Op) (t : Ty) (c d : core.Expr) → types_of ns (compared ns op t c d) ≡ ty.bool ∷ []
  compared_types operator.Eq t c d = refl
  compared_types operator.Ne t c d = refl
  compared_types _ t c d = refl

  comparison_value_right : (at : Place) (op : Op) (t : Ty) (c : core.Expr) (v : Option Const) (d : core.Expr) (w : Option Const) → IsRight ns (comparison_value ns at op t c v d w)
  comparison_value_right at op t c (Some k) d (Some l) = right_untyped ns at _
  comparison_value_right at op t c (Some k) d None = right ns _ (compared_types op t c d)
  comparison_value_right at op t c None d w = right ns _ (compared_types op t c d)

  comparison_right : (at : Place) (op : Op) (m : Match) → IsRight ns (comparison ns at op m)
  comparison_right at op (alike t c v d w) =
      right_if ns (has_comparison ns op (underlying ns t)) (comparison_value ns at op t c v d w) (bad at 56) (comparison_value_right at op t c v d w) (right_bad ns at 56)
  comparison_right at op (constants k l) =
      right_if ns (constant_has_comparison ns op k) (folded_untyped at (binary_answer op None k l)) (bad at 56) (right_untyped ns at _) (right_bad ns at 56)
  comparison_right at op (truths c d) =
      right_if ns (is_equality op) (truth_value (compared ns op ty.bool c d)) (bad at 56) (right ns _ (compared_types op ty.bool c d)) (right_bad ns at 56)
  comparison_right at op (numbers x y b) =
      right_unless ns (pending_flaws ns (default_type b) x ++ pending_flaws ns (default_type b) y)
      (truth_value (compared ns op (default_type b) (pending_at (default_type b) x) (pending_at (default_type b) y)))
      (right ns _ (compared_types op (default_type b) (pending_at (default_type b) x) (pending_at (default_type b) y)))
  comparison_right at op (unfit f fs) = right ns _ tt
  comparison_right at op differ = right_bad ns _ _

  -- ---- and, or

  joined_types : (op : Op) (t : Ty) (c d : core.Expr) → types_of ns (joined_by ns op t c d) ≡ t ∷ []
  joined_types operator.AndThen t c d = refl
  joined_types _ t c d = refl

  logical_value_right : (at : Place) (op : Op) (t : Ty) (c : core.Expr) (v : Option Const) (d : core.Expr) (w : Option Const) → IsTrue (is_single t) → IsRight ns (logical_value ns at op t c v d w)
  logical_value_right at op t c (Some k) d (Some l) h = right_folded ns at t _ h
  logical_value_right at op t c (Some k) d None h = right_value ns _ t h (joined_types op t c d)
  logical_value_right at op t c None d w h = right_value ns _ t h (joined_types op t c d)

  logical_constants_right : (at : Place) (op : Op) (k l : Const) → IsRight ns (logical_constants ns at op k l)
  logical_constants_right at op (form.Bool b) l = right_untyped ns at _
  logical_constants_right at op _ l = right_bad ns _ _

  logical_right : (at : Place) (op : Op) (m : Match) → MatchFits m → IsRight ns (logical ns at op m)
  logical_right at op (alike t c v d w) h =
      right_if ns (is_bool (underlying ns t)) (logical_value ns at op t c v d w) (bad at 55) (logical_value_right at op t c v d w h) (right_bad ns at 55)
  logical_right at op (constants k l) h = logical_constants_right at op k l
  logical_right at op (truths c d) h = right ns _ (joined_types op ty.bool c d)
  logical_right at op (numbers x y b) h =
      right_unless ns (pending_flaws ns (default_type b) x ++ pending_flaws ns (default_type b) y) (bad at 55) (right_bad ns at 55)
  logical_right at op (unfit f fs) h = right ns _ tt
  logical_right at op differ h = right_bad ns _ _

  on_operands_right : (class : OpClass) (at : Place) (op : Op) (p : Place) (x : Operand) (q : Place) (y : Operand) → OperandFits ns (Some x) → OperandFits ns (Some y) → IsRight ns (on_operands ns class at op p x q y)
  on_operands_right Arithmetic at op p x q y h k = let m = matched_fits false p x q y h k in arithmetic_right at op q (matched ns false p x q y) m.fits
  on_operands_right Comparison at op p x q y h k = comparison_right at op (matched ns true p x q y)
  on_operands_right Logical at op p x q y h k = let m = matched_fits false p x q y h k in logical_right at op (matched ns false p x q y) m.fits

  pub on_singles_right : (class : OpClass) (at : Place) (op : Op) (p : Place) (x : Option Operand) (q : Place) (y : Option Operand) → OperandFits ns x → OperandFits ns y → IsRight ns (on_singles ns class at op p x q y)
  on_singles_right class at op p (Some x) q (Some y) h k = on_operands_right class at op p x q y h k
  on_singles_right class at op p (Some x) q None h k = right ns _ tt
  on_singles_right class at op p None q y h k = right ns _ tt

  -- ---- indexes and slices

  abbrev IndexedFits : Indexed → Type 0
  IndexedFits (of_text c t limit) = IsTrue (is_single t)
  IndexedFits _ = Unit {0}

  indexed_typed_fits : (u : Ty) (c : core.Expr) (t : Ty) (v : Option Const) → IsTrue (is_single t) → IndexedFits (indexed_typed u c t v)
  indexed_typed_fits ty.str c t v h = h
  indexed_typed_fits (ty.array n e) c t v h = tt
  indexed_typed_fits (ty.slice e) c t v h = tt
  indexed_typed_fits (ty.pointer e) c t v h = tt
  indexed_typed_fits (ty.mapping k e) c t v h = tt
  indexed_typed_fits _ c t v h = tt

  indexed_constant_fits : (k : Const) → IndexedFits (indexed_constant k)
  indexed_constant_fits (form.Text s) = refl
  indexed_constant_fits _ = tt

  other_unless_fits : (fs : List Flaw) → IndexedFits (other_unless fs)
  other_unless_fits [] = tt
  other_unless_fits (f ∷ fs) = tt

  indexed_fits : (at : Place) (x : Operand) → OperandFits ns (Some x) → IndexedFits (indexed_of ns at x)
  indexed_fits at (typed c t v) h = indexed_typed_fits (underlying ns t) c t v h
  indexed_fits at (constant_operand k) h = indexed_constant_fits k
  indexed_fits at (truth_operand c) h = tt
  indexed_fits at (pending_operand p b) h = other_unless_fits (pending_flaws ns (default_type b) p)
  indexed_fits at nil_operand h = tt

  byte_right : (q : Place) (c : core.Expr) (limit : Option ℕ) (i : Index) → IsRight ns (byte_at q c limit i)
  byte_right q c limit (index d n) = right_if ns (is_below n limit) (value (core.byte_at c d) byte_type None) (bad q 65) (right ns _ refl) (right_bad ns q 65)
  byte_right q c limit no_index = right_bad ns _ _
  byte_right q c limit (unfit_index f fs) = right ns _ tt

  index_fit_right : (at : Place) (x : Indexed) (q : Place) (i : Index) → IsRight ns (index_fit at x q i)
  index_fit_right at (of_text c t limit) q i = byte_right q c limit i
  index_fit_right at of_unbuilt q i = right_bad ns _ _
  index_fit_right at of_other q i = right_bad ns _ _
  index_fit_right at (indexes.unfit f fs) q i = right ns _ tt

  pub index_right : (at : Place) (p : Place) (x : Option Operand) (q : Place) (y : Option Operand) → IsRight ns (index_single ns at p x q y)
  index_right at p (Some x) q (Some y) =
      right_unless ns (indexed_flaws (indexed_of ns p x) ++ index_flaws (index_of ns q y)) (index_fit at (indexed_of ns p x) q (index_of ns q y)) (index_fit_right at (indexed_of ns p x) q (index_of ns q y))
  index_right at p (Some x) q None = right ns _ tt
  index_right at p None q y = right ns _ tt

  slice_text_right : (c : core.Expr) (t : Ty) (limit : Option ℕ) (low high : Edge) → IsTrue (is_single t) → IsRight ns (slice_text c t limit low high)
  slice_text_right c t limit low high h =
      right_unless ns (past_end limit low ++ past_end limit high) _ (right_unless ns (out_of_order (edge_value low) high) (value (core.slice_of t t c (edge_bound low) (edge_bound high) core.no_bound) t None) (right_value ns _ t h refl))

  slice_fit_right : (at : Place) (x : Indexed) (low high most : Edge) → IndexedFits x → IsRight ns (slice_fit at x low high most)
  slice_fit_right at (of_text c t limit) low high most h = right_if ns (has_edge most) (bad at 64) (slice_text c t limit low high) (right_bad ns at 64) (slice_text_right c t limit low high h)
  slice_fit_right at of_unbuilt low high most h = right_bad ns _ _
  slice_fit_right at of_other low high most h = right_bad ns _ _
  slice_fit_right at (indexes.unfit f fs) low high most h = right ns _ tt

  pub slice_right : (at : Place) (p : Place) (x : Option Operand) (fs : List Flaw) (low high most : Edge) → OperandFits ns x → IsRight ns (slice_single ns at p x fs low high most)
  slice_right at p (Some x) [] low high most h =
      right_unless ns (indexed_flaws (indexed_of ns p x) ++ edge_flaws low ++ edge_flaws high ++ edge_flaws most) (slice_fit at (indexed_of ns p x) low high most)
      (slice_fit_right at (indexed_of ns p x) low high most (indexed_fits p x h))
  slice_right at p (Some x) (f ∷ fs) low high most h = right ns _ tt
  slice_right at p None fs low high most h = right ns _ tt

  -- ---- conversions

  converted_constant_right : (at p : Place) (t u : Ty) (k : Const) → IsTrue (is_single t) → IsRight ns (converted_constant at p t u k)
  converted_constant_right at p t ty.bool (form.Bool b) h = right_folded ns p t (conversion_of (form.Bool b) basic.Bool) h
  converted_constant_right at p t ty.str (form.Text s) h = right_folded ns p t (conversion_of (form.Text s) basic.Str) h
  converted_constant_right at p t ty.str (form.Int z) h = right_folded ns p t (conversion_of (form.Int z) basic.Str) h
  converted_constant_right at p t ty.str (form.Rune z) h = right_folded ns p t (conversion_of (form.Rune z) basic.Str) h
  converted_constant_right at p t (ty.int name) (form.Int z) h = right_folded ns p t (conversion_of (form.Int z) (basic.Int (kind_of name))) h
  converted_constant_right at p t (ty.int name) (form.Rune z) h = right_folded ns p t (conversion_of (form.Rune z) (basic.Int (kind_of name))) h
  converted_constant_right at p t _ k h = right_bad ns _ _

  converted_right : (at : Place) (t : Ty) (p : Place) (x : Operand) → IsTrue (is_single t) → OperandFits ns (Some x) → IsRight ns (converted ns at t p x)
  converted_right at t p (typed c u None) h k =
      right_if ns (converts (underlying ns u) (underlying ns t)) (value (core.convert u t c) t None) (bad at 58) (right_value ns _ t h refl) (right_bad ns at 58)
  converted_right at t p (typed c u (Some l)) h k = converted_constant_right at p t (underlying ns t) l h
  converted_right at t p (constant_operand l) h k = converted_constant_right at p t (underlying ns t) l h
  converted_right at t p (truth_operand c) h k =
      right_if ns (is_bool (underlying ns t)) (value (truth_at t c) t None) (bad at 58) (right_value ns _ t h (truth_types ns t c k)) (right_bad ns at 58)
  converted_right at t p (pending_operand x b) h k = right_unless ns (pending_flaws ns t x) (value (pending_at t x) t None) (right_value ns _ t h (pending_types ns t x))
  converted_right at t p nil_operand h k = right_bad ns _ _

  -- each operand fits
  abbrev pub AllFit : List (Place × Operand) → Type 0
  AllFit [] = Unit {0}
  AllFit (x ∷ xs) = OperandFits ns (Some x.1) × AllFit xs

  conversion_all_right : (at : Place) (t : Ty) (xs : List (Place × Operand)) → IsTrue (is_single t) → AllFit xs → IsRight ns (conversion_of_all ns at t xs)
  conversion_all_right at t [] h k = right_bad ns _ _
  conversion_all_right at t (x ∷ []) h k = right_if ns (is_scalar (underlying ns t)) (converted ns at t x.0 x.1) (bad at 0) (converted_right at t x.0 x.1 h k.0) (right_bad ns at 0)
  conversion_all_right at t (x ∷ y ∷ ys) h k = right_bad ns _ _

  -- the answers of parts
  pub record AllRight (xs : List Part) : Type 0 where
    pub all : AllFit (operands_of xs)

  conversion_right : (at : Place) (t : Ty) (spread : Bool) (xs : List Part) → IsTrue (is_single t) → AllRight xs → IsRight ns (conversion_row ns at t spread xs)
  conversion_right at t spread xs h k =
      right_known ns (all_known xs) _ (right_unless ns (no_values xs) _ (right_if ns spread (bad at 60) (conversion_of_all ns at t (operands_of xs)) (right_bad ns at 60) (conversion_all_right at t (operands_of xs) h k.all)))

  -- ---- calls

  call_value_right : (rs : Tys) (f : core.Callee) (es : core.Exprs) → IsTrue (all_single rs) → IsRight ns (call_value rs (core.call rs f es))
  call_value_right no_tys f es h = right ns _ refl
  call_value_right (more_tys t no_tys) f es h = right_value ns _ t (first_true (is_single t) _ h) refl
    where
      first_true : (a b : Bool) → IsTrue (a && b) → IsTrue a
      first_true true b k = refl
      first_true false b k = k
  call_value_right (more_tys t (more_tys u us)) f es h = right ns _ refl

  call_with_right : (id : ℕ) (rs : Tys) (vs : Values) → IsTrue (all_single rs) → IsRight ns (call_with id rs vs)
  call_with_right id rs (values es) h = call_value_right rs (core.function id) es h
  call_with_right id rs (calls.unfit f fs) h = right ns _ tt

  function_given_right : (at : Place) (id : ℕ) (ps rs : Tys) (g : Given) → IsTrue (all_single rs) → IsRight ns (function_given ns at id ps rs g)
  function_given_right at id ps rs (each xs) h = right_if ns (same_count ps xs) (call_with id rs (values_at ns ps xs)) (bad at 60) (call_with_right id rs (values_at ns ps xs) h) (right_bad ns at 60)
  function_given_right at id ps rs (several p c ts) h =
      right_if ns (one_count ps ts) _ (bad at 60)
      (right_if ns (same_types ps ts) (call_with id rs (values (only_value c))) (bad p 61) (call_with_right id rs (values (only_value c)) h) (right_bad ns p 61)) (right_bad ns at 60)
  function_given_right at id ps rs (no_givens f fs) h = right ns _ tt

  spread_right : (at : Place) (g : Given) → IsRight ns (spread_given ns at g)
  spread_right at (no_givens f fs) = right ns _ tt
  spread_right at (each xs) = right_bad ns _ _
  spread_right at (several p c ts) = right_bad ns _ _

  pub function_right : (at : Place) (id : ℕ) (ps rs : Tys) (variadic spread : Bool) (xs : List Part) → IsTrue (all_single rs) → IsRight ns (function_row ns at id ps rs variadic spread xs)
  function_right at id ps rs true spread xs h = right_known ns (all_known xs) (bad at 0) (right_bad ns at 0)
  function_right at id ps rs false true xs h = right_known ns (all_known xs) _ (spread_right at (given xs))
  function_right at id ps rs false false xs h = right_known ns (all_known xs) _ (function_given_right at id ps rs (given xs) h)

  constant_length_right : (at : Place) (bytes : List ℕ) → IsRight ns (constant_length at bytes)
  constant_length_right at bytes = right_folded ns at int_type _ refl

  length_typed_right : (at : Place) (c : core.Expr) (t u : Ty) (v : Option Const) → IsRight ns (length_of_typed ns at c t u v)
  length_typed_right at c t ty.str (Some (form.Text s)) = constant_length_right at s
  length_typed_right at c t ty.str (Some (form.Bool b)) = right ns _ refl
  length_typed_right at c t ty.str (Some (form.Int z)) = right ns _ refl
  length_typed_right at c t ty.str (Some (form.Rune z)) = right ns _ refl
  length_typed_right at c t ty.str None = right ns _ refl
  length_typed_right at c t _ v = right ns _ tt

  length_constant_right : (at : Place) (k : Const) → IsRight ns (length_of_constant ns at k)
  length_constant_right at (form.Text s) = constant_length_right at s
  length_constant_right at _ = right ns _ tt

  length_right : (at p : Place) (x : Operand) → IsRight ns (length_row ns at p x)
  length_right at p (typed c t v) = length_typed_right at c t (underlying ns t) v
  length_right at p (constant_operand k) = length_constant_right at k
  length_right at p (truth_operand c) = right ns _ tt
  length_right at p (pending_operand x b) = right_unless ns (pending_flaws ns (default_type b) x) _ (right ns (bad_name at 72 (name_of_builtin Len)) tt)
  length_right at p nil_operand = right_bad ns _ _

  length_given_right : (at : Place) (g : Given) → IsRight ns (length_given ns at g)
  length_given_right at (each []) = right_bad ns _ _
  length_given_right at (each (x ∷ [])) = length_right at x.0 x.1
  length_given_right at (each (x ∷ y ∷ ys)) = right_bad ns _ _
  length_given_right at (several p c ts) = right_bad ns _ _
  length_given_right at (no_givens f fs) = right ns _ tt

  print_with_right : (ends : Bool) (vs : Values) → IsRight ns (print_with ends vs)
  print_with_right ends (values es) = right ns _ tt
  print_with_right ends (calls.unfit f fs) = right ns _ tt

  print_right : (at : Place) (b : Builtin) (g : Given) → IsRight ns (print_given ns at b g)
  print_right at b (each xs) =
      right_if ns (all_printable ns xs) (print_with (ends_line b) (values_alone ns xs)) (bad_name at 72 (name_of_builtin b)) (print_with_right (ends_line b) (values_alone ns xs)) (right ns _ tt)
  print_right at b (several p c ts) =
      right_if ns (all_scalar ns ts) (print_with (ends_line b) (values (only_value c))) (bad_name at 72 (name_of_builtin b)) (print_with_right (ends_line b) (values (only_value c))) (right ns _ tt)
  print_right at b (no_givens f fs) = right ns _ tt

  built_in_call_right : (at : Place) (b : Builtin) (g : Given) → IsRight ns (built_in_call ns at b g)
  built_in_call_right at Len g = length_given_right at g
  built_in_call_right at Print g = print_right at Print g
  built_in_call_right at Println g = print_right at Println g
  built_in_call_right at _ g = right_bad ns _ _

  pub built_in_right : (at : Place) (b : Builtin) (spread : Bool) (xs : List Part) → IsRight ns (built_in_row ns at b spread xs)
  built_in_right at b spread xs =
      right_if ns (is_built b) _ (bad at 0)
      (right_known ns (all_known xs) _ (right_if ns spread (spread_given ns at (given xs)) (built_in_call ns at b (given xs)) (spread_right at (given xs)) (built_in_call_right at b (given xs))))
      (right_bad ns at 0)

  called_value_right : (at p : Place) (u : Ty) → IsRight ns (called_value ns at p u)
  called_value_right at p (ty.func ps rs v) = right_bad ns _ _
  called_value_right at p (ty.tuple ts) = right_bad ns _ _
  called_value_right at p _ = right_bad ns _ _

  pub called_right : (at p : Place) (a : Answer) (spread : Bool) (xs : List Part) → IsRight ns a → AllRight xs → IsRight ns (called_known ns at p a spread xs)
  called_right at p (value c t v) spread xs h k = right_known ns (all_known xs) _ (called_value_right at p (underlying ns t))
  called_right at p (pending x b) spread xs h k = right_known ns (all_known xs) _ (right_unless ns (pending_flaws ns (default_type b) x) (bad p 59) (right_bad ns p 59))
  called_right at p (type_ t) spread xs h k = conversion_right at t spread xs h.fits k
  called_right at p (wrong f fs) spread xs h k = right ns _ tt
  called_right at p untyped_part spread xs h k = right ns _ tt
  called_right at p (package_ path) spread xs h k = right_known ns (all_known xs) (bad p 52) (right_bad ns p 52)
  called_right at p (built_in b) spread xs h k = right_known ns (all_known xs) (bad p 52) (right_bad ns p 52)
  called_right at p blank spread xs h k = right_known ns (all_known xs) (bad p 52) (right_bad ns p 52)
  called_right at p (does s) spread xs h k = right_known ns (all_known xs) (bad p 52) (right_bad ns p 52)
