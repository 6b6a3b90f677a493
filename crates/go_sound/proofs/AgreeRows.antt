-- Two lists of named types that agree on the types at hand: the rows are the same with both.
use Rattle.std.proofs.Common.{◌≡◌, ℕ, List, [], ◌∷◌, ◌++◌, ◌&&◌, refl, subst, ap, ◌∙◌, Bool, true, false, Option, Some, None, Result, Ok, Err, if◌then◌else◌}
use Rattle.gj_base.specs.declared.place.Place.{Place}
use Rattle.gj_base.specs.declared.kind.Op.{Op}
use Rattle.gj_base.specs.declared.kind.Op.TheVariants as operator
use Rattle.go_const.specs.declared.constant.Const.{Const}
use Rattle.go_const.specs.declared.constant.Const.TheVariants as form
use Rattle.go_const.specs.declared.constant.ConstRefusal.{ConstRefusal}
use Rattle.go_const.specs.declared.constant.ConstRefusal.TheVariants.{Code, NoMemory}
use Rattle.go_const.specs.Answer.{unary_answer, binary_answer, shift_of}
use Rattle.go_type.specs.declared.types.Basis.{Basis}
use Rattle.go_type.specs.Tree as ty
use Rattle.go_type.specs.Tree.{Ty, Tys, no_tys, more_tys}
use Rattle.go_type.specs.Named.{NamedTy}
use Rattle.go_type.specs.Underlying.{underlying}
use Rattle.go_core.specs.SameType.{same_type}
use Rattle.go_core.specs.CoreTree as core
use Rattle.go_typing.specs.Env.{uint_type}
use Rattle.go_typing.specs.Answer.{Flaw, Answer, pending, bad, unless, Pending, fixed, joined, signed}
use Rattle.go_typing.specs.Operand.{Operand, typed, constant_operand, truth_operand, pending_operand, nil_operand, folded_untyped, truth_value, is_int, is_bool, is_number, number_kind, default_type, pending_flaws, pending_at, Passed, passed, refused, unassignable, goes_to, as_type}
use Rattle.go_typing.specs.Wanted.{no_type}
use Rattle.go_typing.specs.Unary.{has_operator, constant_has_operator, is_not, unary_value, unary_operand}
use Rattle.go_typing.specs.Shift as shift
use Rattle.go_typing.specs.Shift.{Count, known_count, fit_count, no_integer, count_of, shift_typed, shift_constant, shift_counted, can_shift, shift_operands, shift_single}
use Rattle.go_typing.specs.Binary as bin
use Rattle.go_typing.specs.Binary.{OpClass, Match, differ, one_kind, is_add, is_equality, unless_unfit, right_taken, left_taken, pending_differs, pending_beside, constant_beside, beside_other_truth, two_untyped, two_typed, typed_beside, untyped_beside, matched, divides_by_zero, integers, texts, sum_of, sum_of_constants, sum_of_numbers, arithmetic, compared, has_comparison, constant_has_comparison, comparison_value, comparison, joined_by, logical_value, logical_constants, logical, on_operands, on_singles}
use Rattle.go_sound.proofs.Agree.{Agrees, under_same, OperandAgrees, SingleAgrees, Alike, alike, alike_bad, alike_test, alike_if, alike_unless, alike_folded, pending_same, default_same, goes_same, passed_same}

module _ (ns ms : List NamedTy) (P : ℕ → Type 0) (s : (id : ℕ) → P id → underlying ns (ty.named id) ≡ underlying ms (ty.named id)) where
  pub untyped_alike : (at : Place) (r : Result Const ConstRefusal) → Alike ns ms P s (folded_untyped at r) (folded_untyped at r)
  untyped_alike at (Ok k) = alike ns ms P s _ tt
  untyped_alike at (Err (Code n)) = alike ns ms P s _ tt
  untyped_alike at (Err NoMemory) = alike ns ms P s _ tt

  -- ---- before an operand

  unary_value_alike : (at : Place) (op : Op) (c : core.Expr) (t : Ty) (v : Option Const) → Agrees P t → Alike ns ms P s (unary_value ns at op c t v) (unary_value ms at op c t v)
  unary_value_alike at op c t None h = alike ns ms P s _ h
  unary_value_alike at op c t (Some k) h = alike_folded ns ms P s at t _ _ (ap (λ (u : Ty). unary_answer op (number_kind u) k) (under_same ns ms P s t h)) h

  pub unary_alike : (at : Place) (op : Op) (p : Place) (x : Option Operand) → SingleAgrees P x → Alike ns ms P s (unary_operand ns at op p x) (unary_operand ms at op p x)
  unary_alike at op p None h = alike_bad ns ms P s _ _
  unary_alike at op p (Some (typed c t v)) h =
      alike_test ns ms P s (has_operator op (underlying ns t)) (has_operator op (underlying ms t)) _ _ _ _ (ap (has_operator op) (under_same ns ms P s t h)) (unary_value_alike at op c t v h) (alike_bad ns ms P s at 54)
  unary_alike at op p (Some (constant_operand k)) h = alike_if ns ms P s (constant_has_operator op k) _ _ _ _ (untyped_alike at (unary_answer op None k)) (alike_bad ns ms P s at 54)
  unary_alike at op p (Some (truth_operand c)) h = alike_if ns ms P s (is_not op) (truth_value (core.not_ ty.bool c)) (bad at 54) _ _ (alike ns ms P s _ tt) (alike_bad ns ms P s at 54)
  unary_alike at op p (Some (pending_operand x b)) h =
      alike_if ns ms P s (is_not op) (unless (pending_flaws ns (default_type b) x) (bad at 54)) (pending (signed op x) b) (unless (pending_flaws ms (default_type b) x) (bad at 54)) (pending (signed op x) b)
      (alike_unless ns ms P s _ _ _ _ (default_same ns ms P s b x) (alike_bad ns ms P s at 54)) (alike ns ms P s _ tt)
  unary_alike at op p (Some nil_operand) h = alike_bad ns ms P s _ _

  -- ---- shifts

  count_same : (q : Place) (y : Operand) → OperandAgrees P y → count_of ns q y ≡ count_of ms q y
  count_same q (typed c t v) h = ap (λ (u : Ty). if is_int u then known_count c v else no_integer) (under_same ns ms P s t h)
  count_same q (constant_operand k) h = refl
  count_same q (truth_operand c) h = refl
  count_same q (pending_operand p b) h = ap (λ (fs : List Flaw). fit_count fs (pending_at uint_type p)) (pending_same ns ms P s uint_type p tt)
  count_same q nil_operand h = refl

  shift_typed_alike : (at : Place) (op : Op) (t : Ty) (c : core.Expr) (v : Option Const) (d : core.Expr) (w : Option Const) → Agrees P t → Alike ns ms P s (shift_typed ns at op t c v d w) (shift_typed ms at op t c v d w)
  shift_typed_alike at op t c (Some k) d (Some n) h = alike_folded ns ms P s at t _ _ (ap (λ (u : Ty). shift_of op (number_kind u) k n) (under_same ns ms P s t h)) h
  shift_typed_alike at op t c (Some k) d None h = alike ns ms P s _ h
  shift_typed_alike at op t c None d w h = alike ns ms P s _ h

  shift_constant_alike : (at : Place) (op : Op) (k : Const) (d : core.Expr) (w : Option Const) → Alike ns ms P s (shift_constant ns at op k d w) (shift_constant ms at op k d w)
  shift_constant_alike at op k d (Some n) = untyped_alike at (shift_of op None k n)
  shift_constant_alike at op k d None = alike ns ms P s _ tt

  shift_counted_alike : (at : Place) (op : Op) (x : Operand) (d : core.Expr) (w : Option Const) → OperandAgrees P x → Alike ns ms P s (shift_counted ns at op x d w) (shift_counted ms at op x d w)
  shift_counted_alike at op (typed c t v) d w h =
      alike_test ns ms P s (is_int (underlying ns t)) (is_int (underlying ms t)) _ _ _ _ (ap is_int (under_same ns ms P s t h)) (shift_typed_alike at op t c v d w h) (alike_bad ns ms P s at 57)
  shift_counted_alike at op (constant_operand k) d w h = alike_if ns ms P s (is_number k) _ _ _ _ (shift_constant_alike at op k d w) (alike_bad ns ms P s at 57)
  shift_counted_alike at op (truth_operand c) d w h = alike_bad ns ms P s _ _
  shift_counted_alike at op (pending_operand p b) d w h = alike ns ms P s _ tt
  shift_counted_alike at op nil_operand d w h = alike_bad ns ms P s _ _

  can_same : (x : Operand) → OperandAgrees P x → can_shift ns x ≡ can_shift ms x
  can_same (typed c t v) h = ap is_int (under_same ns ms P s t h)
  can_same (constant_operand k) h = refl
  can_same (truth_operand c) h = refl
  can_same (pending_operand p b) h = refl
  can_same nil_operand h = refl

  shift_operands_alike : (at : Place) (op : Op) (x : Operand) (q : Place) (n : Count) → OperandAgrees P x → Alike ns ms P s (shift_operands ns at op x q n) (shift_operands ms at op x q n)
  shift_operands_alike at op x q (shift.counted d w) h = shift_counted_alike at op x d w h
  shift_operands_alike at op x q shift.negative h = alike_test ns ms P s (can_shift ns x) (can_shift ms x) _ _ _ _ (can_same x h) (alike_bad ns ms P s q 33) (alike_bad ns ms P s at 57)
  shift_operands_alike at op x q shift.no_integer h = alike_bad ns ms P s _ _
  shift_operands_alike at op x q (shift.unfit f fs) h = alike ns ms P s _ tt

  pub shift_alike : (at : Place) (op : Op) (p : Place) (x : Option Operand) (q : Place) (y : Option Operand) → SingleAgrees P x → SingleAgrees P y → Alike ns ms P s (shift_single ns at op p x q y) (shift_single ms at op p x q y)
  shift_alike at op p (Some x) q (Some y) h k =
      let r : Alike ns ms P s (shift_operands ns at op x q (count_of ns q y)) (shift_operands ms at op x q (count_of ms q y)) =
      subst (λ (n : Count). Alike ns ms P s (shift_operands ns at op x q (count_of ns q y)) (shift_operands ms at op x q n)) (count_same q y k) (shift_operands_alike at op x q (count_of ns q y) h)
      in alike_unless ns ms P s (no_type p x) (no_type p x) _ _ refl r
  shift_alike at op p (Some x) q None h k = alike ns ms P s _ tt
  shift_alike at op p None q y h k = alike ns ms P s _ tt

  -- ---- both operands at one type

  abbrev MatchAgrees : Match → Type 0
  MatchAgrees (bin.alike t c v d w) = Agrees P t
  MatchAgrees _ = Unit {0}

  record MatchAlike (m n : Match) : Type 0 where
    pub same : m ≡ n
    pub agrees : MatchAgrees m

  matches : (m : Match) → MatchAgrees m → MatchAlike m m
  matches m h = record { same = refl; agrees = h }

  match_test : (b c : Bool) (x y u v : Match) → b ≡ c → MatchAlike x u → MatchAlike y v → MatchAlike (if b then x else y) (if c then u else v)
  match_test true true x y u v e p q = p
  match_test false false x y u v e p q = q
  match_test true false x y u v e p q = cc
  match_test false true x y u v e p q = cc

  match_unless : (fs : List Flaw) (m n : Match) → MatchAlike m n → MatchAlike (unless_unfit fs m) (unless_unfit fs n)
  match_unless [] m n p = p
  match_unless (f ∷ fs) m n p = matches _ tt

  right_taken_alike : (t : Ty) (c : core.Expr) (v : Option Const) (x y : Passed) → x ≡ y → Agrees P t → MatchAlike (right_taken t c v x) (right_taken t c v y)
  right_taken_alike t c v x y e h = record { same = ap (right_taken t c v) e; agrees = by_case x }
    where
      by_case : (z : Passed) → MatchAgrees (right_taken t c v z)
      by_case (passed d w) = h
      by_case (refused f fs) = tt
      by_case unassignable = tt

  left_taken_alike : (x y : Passed) (u : Ty) (d : core.Expr) (w : Option Const) → x ≡ y → Agrees P u → MatchAlike (left_taken x u d w) (left_taken y u d w)
  left_taken_alike x y u d w e h = record { same = ap (λ (z : Passed). left_taken z u d w) e; agrees = by_case x }
    where
      by_case : (z : Passed) → MatchAgrees (left_taken z u d w)
      by_case (passed c v) = h
      by_case (refused f fs) = tt
      by_case unassignable = tt

  pending_differs_alike : (p : Pending) (b : Basis) → MatchAlike (pending_differs ns p b) (pending_differs ms p b)
  pending_differs_alike p b = record { same = ap (λ (fs : List Flaw). unless_unfit fs differ) (default_same ns ms P s b p); agrees = by_case (pending_flaws ns (default_type b) p) }
    where
      by_case : (fs : List Flaw) → MatchAgrees (unless_unfit fs differ)
      by_case [] = tt
      by_case (f ∷ fs) = tt

  pending_beside_alike : (p : Pending) (b : Basis) (q : Place) (y : Operand) → MatchAlike (pending_beside ns p b q y) (pending_beside ms p b q y)
  pending_beside_alike p b q (typed d u w) = matches _ tt
  pending_beside_alike p b q (constant_operand l) = match_test (is_number l) (is_number l) _ _ _ _ refl (matches _ tt) (pending_differs_alike p b)
  pending_beside_alike p b q (truth_operand d) = pending_differs_alike p b
  pending_beside_alike p b q (pending_operand r e) = matches _ tt
  pending_beside_alike p b q nil_operand = matches _ tt

  two_constants_agree : (b : Bool) (k l : Const) → MatchAgrees (if b then bin.constants k l else differ)
  two_constants_agree true k l = tt
  two_constants_agree false k l = tt

  truth_beside_agrees : (k : Const) (d : core.Expr) → MatchAgrees (bin.truth_beside k d)
  truth_beside_agrees (form.Bool b) d = tt
  truth_beside_agrees _ d = tt

  beside_truth_agrees : (c : core.Expr) (k : Const) → MatchAgrees (bin.beside_truth c k)
  beside_truth_agrees c (form.Bool b) = tt
  beside_truth_agrees c _ = tt

  constant_beside_alike : (p : Place) (k : Const) (y : Operand) → MatchAlike (constant_beside ns p k y) (constant_beside ms p k y)
  constant_beside_alike p k (typed d u w) = matches _ tt
  constant_beside_alike p k (constant_operand l) = matches _ (two_constants_agree (one_kind k l) k l)
  constant_beside_alike p k (truth_operand d) = matches _ (truth_beside_agrees k d)
  constant_beside_alike p k (pending_operand r e) = match_test (is_number k) (is_number k) _ _ _ _ refl (matches _ tt) (pending_differs_alike r e)
  constant_beside_alike p k nil_operand = matches _ tt

  other_truth_alike : (c : core.Expr) (y : Operand) → MatchAlike (beside_other_truth ns c y) (beside_other_truth ms c y)
  other_truth_alike c (typed d u w) = matches _ tt
  other_truth_alike c (constant_operand l) = matches _ (beside_truth_agrees c l)
  other_truth_alike c (truth_operand d) = matches _ tt
  other_truth_alike c (pending_operand r e) = pending_differs_alike r e
  other_truth_alike c nil_operand = matches _ tt

  two_untyped_alike : (p : Place) (x : Operand) (q : Place) (y : Operand) → MatchAlike (two_untyped ns p x q y) (two_untyped ms p x q y)
  two_untyped_alike p (typed c t v) q y = matches _ tt
  two_untyped_alike p (constant_operand k) q y = constant_beside_alike p k y
  two_untyped_alike p (truth_operand c) q y = other_truth_alike c y
  two_untyped_alike p (pending_operand x b) q y = pending_beside_alike x b q y
  two_untyped_alike p nil_operand q y = matches _ tt

  two_typed_alike : (compares : Bool) (c : core.Expr) (t : Ty) (v : Option Const) (d : core.Expr) (u : Ty) (w : Option Const) → Agrees P t → Agrees P u → MatchAlike (two_typed ns compares c t v d u w) (two_typed ms compares c t v d u w)
  two_typed_alike compares c t v d u w h k =
      match_test (same_type t u) (same_type t u) _ _ _ _ refl (matches (bin.alike t c v d w) h)
      (match_test (compares && goes_to ns t u) (compares && goes_to ms t u) _ _ _ _ (ap (λ (b : Bool). compares && b) (goes_same ns ms P s t u h k)) (matches (bin.alike u (as_type c t u) v d w) k)
      (match_test (compares && goes_to ns u t) (compares && goes_to ms u t) _ _ _ _ (ap (λ (b : Bool). compares && b) (goes_same ns ms P s u t k h)) (matches (bin.alike t c v (as_type d u t) w) h) (matches differ tt)))

  typed_beside_alike : (compares : Bool) (c : core.Expr) (t : Ty) (v : Option Const) (q : Place) (y : Operand) → Agrees P t → OperandAgrees P y → MatchAlike (typed_beside ns compares c t v q y) (typed_beside ms compares c t v q y)
  typed_beside_alike compares c t v q (typed d u w) h k = two_typed_alike compares c t v d u w h k
  typed_beside_alike compares c t v q (constant_operand l) h k = right_taken_alike t c v _ _ (passed_same ns ms P s q t (constant_operand l) h k) h
  typed_beside_alike compares c t v q (truth_operand d) h k = right_taken_alike t c v _ _ (passed_same ns ms P s q t (truth_operand d) h k) h
  typed_beside_alike compares c t v q (pending_operand r e) h k = right_taken_alike t c v _ _ (passed_same ns ms P s q t (pending_operand r e) h k) h
  typed_beside_alike compares c t v q nil_operand h k = right_taken_alike t c v _ _ (passed_same ns ms P s q t nil_operand h k) h

  untyped_beside_alike : (p : Place) (x : Operand) (q : Place) (y : Operand) → OperandAgrees P x → OperandAgrees P y → MatchAlike (untyped_beside ns p x q y) (untyped_beside ms p x q y)
  untyped_beside_alike p x q (typed d u w) h k = left_taken_alike _ _ u d w (passed_same ns ms P s p u x k h) k
  untyped_beside_alike p x q (constant_operand l) h k = match_unless (no_type p x ++ no_type q (constant_operand l)) _ _ (two_untyped_alike p x q (constant_operand l))
  untyped_beside_alike p x q (truth_operand d) h k = match_unless (no_type p x ++ no_type q (truth_operand d)) _ _ (two_untyped_alike p x q (truth_operand d))
  untyped_beside_alike p x q (pending_operand r e) h k = match_unless (no_type p x ++ no_type q (pending_operand r e)) _ _ (two_untyped_alike p x q (pending_operand r e))
  untyped_beside_alike p x q nil_operand h k = match_unless (no_type p x ++ no_type q nil_operand) _ _ (two_untyped_alike p x q nil_operand)

  matched_alike : (compares : Bool) (p : Place) (x : Operand) (q : Place) (y : Operand) → OperandAgrees P x → OperandAgrees P y → MatchAlike (matched ns compares p x q y) (matched ms compares p x q y)
  matched_alike compares p (typed c t v) q y h k = typed_beside_alike compares c t v q y h k
  matched_alike compares p (constant_operand l) q y h k = untyped_beside_alike p (constant_operand l) q y h k
  matched_alike compares p (truth_operand c) q y h k = untyped_beside_alike p (truth_operand c) q y h k
  matched_alike compares p (pending_operand x b) q y h k = untyped_beside_alike p (pending_operand x b) q y h k
  matched_alike compares p nil_operand q y h k = untyped_beside_alike p nil_operand q y h k

  -- ---- arithmetic

  integers_alike : (at : Place) (op : Op) (t : Ty) (c : core.Expr) (v : Option Const) (d : core.Expr) (w : Option Const) → Agrees P t → Alike ns ms P s (integers ns at op t c v d w) (integers ms at op t c v d w)
  integers_alike at op t c (Some k) d (Some l) h = alike_folded ns ms P s at t _ _ (ap (λ (u : Ty). binary_answer op (number_kind u) k l) (under_same ns ms P s t h)) h
  integers_alike at op t c (Some k) d None h = alike ns ms P s _ h
  integers_alike at op t c None d w h = alike ns ms P s _ h

  texts_alike : (at : Place) (t : Ty) (c : core.Expr) (v : Option Const) (d : core.Expr) (w : Option Const) → Agrees P t → Alike ns ms P s (texts ns at t c v d w) (texts ms at t c v d w)
  texts_alike at t c (Some k) d (Some l) h = alike_folded ns ms P s at t (binary_answer operator.Add None k l) _ refl h
  texts_alike at t c (Some k) d None h = alike ns ms P s _ h
  texts_alike at t c None d w h = alike ns ms P s _ h

  sum_alike : (at : Place) (op : Op) (q : Place) (u t : Ty) (c : core.Expr) (v : Option Const) (d : core.Expr) (w : Option Const) → Agrees P t → Alike ns ms P s (sum_of ns at op q u t c v d w) (sum_of ms at op q u t c v d w)
  sum_alike at op q (ty.int name) t c v d w h = alike_if ns ms P s (divides_by_zero ns op w) (bad q 30) (integers ns at op t c v d w) (bad q 30) (integers ms at op t c v d w) (alike_bad ns ms P s q 30) (integers_alike at op t c v d w h)
  sum_alike at op q ty.str t c v d w h = alike_if ns ms P s (is_add op) (texts ns at t c v d w) (bad at 55) (texts ms at t c v d w) (bad at 55) (texts_alike at t c v d w h) (alike_bad ns ms P s at 55)
  sum_alike at op q _ t c v d w h = alike_bad ns ms P s _ _

  sum_of_constants_alike : (at : Place) (op : Op) (q : Place) (k l : Const) → Alike ns ms P s (sum_of_constants ns at op q k l) (sum_of_constants ms at op q k l)
  sum_of_constants_alike at op q (form.Bool b) l = alike_bad ns ms P s _ _
  sum_of_constants_alike at op q (form.Text text) l = alike_if ns ms P s (is_add op) _ (bad at 55) _ (bad at 55) (untyped_alike at (binary_answer op None (form.Text text) l)) (alike_bad ns ms P s at 55)
  sum_of_constants_alike at op q (form.Int z) l = alike_if ns ms P s (divides_by_zero ns op (Some l)) (bad q 30) _ (bad q 30) _ (alike_bad ns ms P s q 30) (untyped_alike at (binary_answer op None (form.Int z) l))
  sum_of_constants_alike at op q (form.Rune z) l = alike_if ns ms P s (divides_by_zero ns op (Some l)) (bad q 30) _ (bad q 30) _ (alike_bad ns ms P s q 30) (untyped_alike at (binary_answer op None (form.Rune z) l))

  sum_of_numbers_alike : (op : Op) (q : Place) (x y : Pending) (b : Basis) → Alike ns ms P s (sum_of_numbers ns op q x y b) (sum_of_numbers ms op q x y b)
  sum_of_numbers_alike op q x (fixed r l) b =
      alike_if ns ms P s (divides_by_zero ns op (Some l)) (bad q 30) (pending (joined op x (fixed r l)) b) (bad q 30) (pending (joined op x (fixed r l)) b) (alike_bad ns ms P s q 30) (alike ns ms P s _ tt)
  sum_of_numbers_alike op q x _ b = alike ns ms P s _ tt

  pub under_alike : (row : Ty → Answer) (t : Ty) (a : Answer) → Agrees P t → Alike ns ms P s a (row (underlying ns t)) → Alike ns ms P s a (row (underlying ms t))
  under_alike row t a h r = subst (λ (u : Ty). Alike ns ms P s a (row u)) (under_same ns ms P s t h) r

  arithmetic_alike : (at : Place) (op : Op) (q : Place) (m : Match) → MatchAgrees m → Alike ns ms P s (arithmetic ns at op q m) (arithmetic ms at op q m)
  arithmetic_alike at op q (bin.alike t c v d w) h = under_alike (λ (u : Ty). sum_of ms at op q u t c v d w) t _ h (sum_alike at op q (underlying ns t) t c v d w h)
  arithmetic_alike at op q (bin.constants k l) h = sum_of_constants_alike at op q k l
  arithmetic_alike at op q (bin.truths c d) h = alike_bad ns ms P s _ _
  arithmetic_alike at op q (bin.numbers x y b) h = sum_of_numbers_alike op q x y b
  arithmetic_alike at op q (bin.unfit f fs) h = alike ns ms P s _ tt
  arithmetic_alike at op q bin.differ h = alike_bad ns ms P s _ _

  -- ---- comparisons

  comparison_value_alike : (at : Place) (op : Op) (t : Ty) (c : core.Expr) (v : Option Const) (d : core.Expr) (w : Option Const) → Alike ns ms P s (comparison_value ns at op t c v d w) (comparison_value ms at op t c v d w)
  comparison_value_alike at op t c (Some k) d (Some l) = untyped_alike at (binary_answer op None k l)
  comparison_value_alike at op t c (Some k) d None = alike ns ms P s _ tt
  comparison_value_alike at op t c None d w = alike ns ms P s _ tt

  both_same : (b : Basis) (x y : Pending) → (pending_flaws ns (default_type b) x ++ pending_flaws ns (default_type b) y) ≡ (pending_flaws ms (default_type b) x ++ pending_flaws ms (default_type b) y)
  both_same b x y =
      ap (λ (fs : List Flaw). fs ++ pending_flaws ns (default_type b) y) (default_same ns ms P s b x) ∙ ap (λ (fs : List Flaw). pending_flaws ms (default_type b) x ++ fs) (default_same ns ms P s b y)

  comparison_alike : (at : Place) (op : Op) (m : Match) → MatchAgrees m → Alike ns ms P s (comparison ns at op m) (comparison ms at op m)
  comparison_alike at op (bin.alike t c v d w) h =
      alike_test ns ms P s (has_comparison ns op (underlying ns t)) (has_comparison ms op (underlying ms t)) _ _ _ _ (ap (has_comparison ns op) (under_same ns ms P s t h)) (comparison_value_alike at op t c v d w) (alike_bad ns ms P s at 56)
  comparison_alike at op (bin.constants k l) h = alike_if ns ms P s (constant_has_comparison ns op k) _ (bad at 56) _ (bad at 56) (untyped_alike at (binary_answer op None k l)) (alike_bad ns ms P s at 56)
  comparison_alike at op (bin.truths c d) h = alike_if ns ms P s (is_equality op) (truth_value (compared ns op ty.bool c d)) (bad at 56) (truth_value (compared ms op ty.bool c d)) (bad at 56) (alike ns ms P s _ tt) (alike_bad ns ms P s at 56)
  comparison_alike at op (bin.numbers x y b) h =
      alike_unless ns ms P s _ _ (truth_value (compared ns op (default_type b) (pending_at (default_type b) x) (pending_at (default_type b) y))) (truth_value (compared ms op (default_type b) (pending_at (default_type b) x) (pending_at (default_type b) y))) (both_same b x y) (alike ns ms P s _ tt)
  comparison_alike at op (bin.unfit f fs) h = alike ns ms P s _ tt
  comparison_alike at op bin.differ h = alike_bad ns ms P s _ _

  -- ---- and, or

  logical_value_alike : (at : Place) (op : Op) (t : Ty) (c : core.Expr) (v : Option Const) (d : core.Expr) (w : Option Const) → Agrees P t → Alike ns ms P s (logical_value ns at op t c v d w) (logical_value ms at op t c v d w)
  logical_value_alike at op t c (Some k) d (Some l) h = alike_folded ns ms P s at t (binary_answer op None k l) _ refl h
  logical_value_alike at op t c (Some k) d None h = alike ns ms P s _ h
  logical_value_alike at op t c None d w h = alike ns ms P s _ h

  logical_constants_alike : (at : Place) (op : Op) (k l : Const) → Alike ns ms P s (logical_constants ns at op k l) (logical_constants ms at op k l)
  logical_constants_alike at op (form.Bool b) l = untyped_alike at (binary_answer op None (form.Bool b) l)
  logical_constants_alike at op _ l = alike_bad ns ms P s _ _

  logical_alike : (at : Place) (op : Op) (m : Match) → MatchAgrees m → Alike ns ms P s (logical ns at op m) (logical ms at op m)
  logical_alike at op (bin.alike t c v d w) h =
      alike_test ns ms P s (is_bool (underlying ns t)) (is_bool (underlying ms t)) _ _ _ _ (ap is_bool (under_same ns ms P s t h)) (logical_value_alike at op t c v d w h) (alike_bad ns ms P s at 55)
  logical_alike at op (bin.constants k l) h = logical_constants_alike at op k l
  logical_alike at op (bin.truths c d) h = alike ns ms P s _ tt
  logical_alike at op (bin.numbers x y b) h = alike_unless ns ms P s _ _ (bad at 55) (bad at 55) (both_same b x y) (alike_bad ns ms P s at 55)
  logical_alike at op (bin.unfit f fs) h = alike ns ms P s _ tt
  logical_alike at op bin.differ h = alike_bad ns ms P s _ _

  match_alike : (row : Match → Answer) (m n : Match) (a : Answer) → MatchAlike m n → Alike ns ms P s a (row m) → Alike ns ms P s a (row n)
  match_alike row m n a l r = subst (λ (x : Match). Alike ns ms P s a (row x)) l.same r

  operands_alike : (class : OpClass) (at : Place) (op : Op) (p : Place) (x : Operand) (q : Place) (y : Operand) → OperandAgrees P x → OperandAgrees P y → Alike ns ms P s (on_operands ns class at op p x q y) (on_operands ms class at op p x q y)
  operands_alike bin.Arithmetic at op p x q y h k =
      let m = matched_alike false p x q y h k in match_alike (arithmetic ms at op q) (matched ns false p x q y) (matched ms false p x q y) _ m (arithmetic_alike at op q (matched ns false p x q y) m.agrees)
  operands_alike bin.Comparison at op p x q y h k =
      let m = matched_alike true p x q y h k in match_alike (comparison ms at op) (matched ns true p x q y) (matched ms true p x q y) _ m (comparison_alike at op (matched ns true p x q y) m.agrees)
  operands_alike bin.Logical at op p x q y h k =
      let m = matched_alike false p x q y h k in match_alike (logical ms at op) (matched ns false p x q y) (matched ms false p x q y) _ m (logical_alike at op (matched ns false p x q y) m.agrees)

  pub singles_alike : (class : OpClass) (at : Place) (op : Op) (p : Place) (x : Option Operand) (q : Place) (y : Option Operand) → SingleAgrees P x → SingleAgrees P y → Alike ns ms P s (on_singles ns class at op p x q y) (on_singles ms class at op p x q y)
  singles_alike class at op p (Some x) q (Some y) h k = operands_alike class at op p x q y h k
  singles_alike class at op p (Some x) q None h k = alike ns ms P s _ tt
  singles_alike class at op p None q y h k = alike ns ms P s _ tt
