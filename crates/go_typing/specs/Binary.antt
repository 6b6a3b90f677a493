-- Operators between operands, shifts aside. Go specification (as of Go 1.17), "Operators", "Arithmetic operators",
-- "Comparison operators", "Logical operators", "String concatenation": both operands are of one type, and an untyped
-- constant beside an operand that is none takes the type of that one.
use Rattle.std.specs.Prelude.{ℤ, List, [], ◌∷◌, ◌++◌, Bool, true, false, ◌&&◌, if◌then◌else◌, Option, Some, None}
use Rattle.gj_base.specs.declared.place.Place.{Place}
use Rattle.gj_base.specs.declared.kind.Op.{Op}
use Rattle.gj_base.specs.declared.kind.Op.TheVariants as operator
use Rattle.go_const.specs.declared.constant.Const.{Const}
use Rattle.go_const.specs.declared.constant.Const.TheVariants as form
use Rattle.go_const.specs.Operation.{whole_of}
use Rattle.go_const.specs.Answer.{binary_answer, zero_division}
use Rattle.go_type.specs.declared.types.Basis.{Basis}
use Rattle.go_type.specs.Tree as ty
use Rattle.go_type.specs.Tree.{Ty}
use Rattle.go_type.specs.Named.{NamedTy}
use Rattle.go_type.specs.Underlying.{underlying}
use Rattle.go_core.specs.SameType.{same_type}
use Rattle.go_core.specs.CoreTree as core
use Rattle.go_core.specs.CoreTree.{Expr}
use Rattle.go_typing.specs.Answer.{Answer, value, pending, Pending, fixed, joined, bad, wrong, Flaw, unless, where_known, is_known, Part}
use Rattle.go_typing.specs.Operand.{Operand, typed, constant_operand, truth_operand, pending_operand, nil_operand, single, constant_at, folded, folded_untyped, truth_value, basis_of, later_basis, is_number, is_bool, number_kind, default_type, pending_flaws, pending_at, Passed, passed, refused, unassignable, passed_at, goes_to, as_type}
use Rattle.go_typing.specs.Wanted.{no_value, no_type}

-- ---- operators

pub data OpClass : Type 0 where
  Arithmetic : OpClass
  Comparison : OpClass
  Logical : OpClass

abbrev pub is_add : Op → Bool
is_add operator.Add = true
is_add _ = false

abbrev pub is_equality : Op → Bool
is_equality operator.Eq = true
is_equality operator.Ne = true
is_equality _ = false

abbrev pub zero_by : Op → Option ℤ → Bool
zero_by op None = false
zero_by op (Some z) = zero_division op z

-- ---- both operands at one type

pub data Match : Type 0 where
  -- of this type, each with which constant it is
  alike : Ty → (left : Expr) → Option Const → (right : Expr) → Option Const → Match
  -- untyped constants of one kind
  constants : Const → Const → Match
  -- untyped booleans, not both constants
  truths : Expr → Expr → Match
  -- untyped numbers whose type is pending
  numbers : Pending → Pending → Basis → Match
  unfit : Flaw → List Flaw → Match
  differ : Match

-- numbers, truth values, or texts
abbrev pub one_kind : Const → Const → Bool
one_kind (form.Bool b) (form.Bool d) = true
one_kind (form.Text s) (form.Text u) = true
one_kind k l = is_number k && is_number l

abbrev pub two_constants : Const → Const → Match
two_constants k l = if one_kind k l then constants k l else differ

abbrev pub truth_beside : Const → Expr → Match
truth_beside (form.Bool b) d = truths (constant_at ty.bool (form.Bool b)) d
truth_beside k d = differ

abbrev pub beside_truth : Expr → Const → Match
beside_truth c (form.Bool b) = truths c (constant_at ty.bool (form.Bool b))
beside_truth c k = differ

-- the second operand at the first one's type, and the other way round
abbrev pub right_taken : Ty → Expr → Option Const → Passed → Match
right_taken t c v (passed d w) = alike t c v d w
right_taken t c v (refused f fs) = unfit f fs
right_taken t c v unassignable = differ

abbrev pub left_taken : Passed → Ty → Expr → Option Const → Match
left_taken (passed c v) u d w = alike u c v d w
left_taken (refused f fs) u d w = unfit f fs
left_taken unassignable u d w = differ

abbrev pub unless_unfit : List Flaw → Match → Match
unless_unfit [] m = m
unless_unfit (f ∷ fs) m = unfit f fs

module _ (ns : List NamedTy) where
  -- own: an untyped number whose type is pending beside what is no number has its default type
  abbrev pub pending_differs : Pending → Basis → Match
  pending_differs p b = unless_unfit (pending_flaws ns (default_type b) p) differ

  abbrev pub pending_beside : Pending → Basis → Place → Operand → Match
  pending_beside p b q (typed d u w) = differ
  pending_beside p b q (constant_operand l) = if is_number l then numbers p (fixed q l) (later_basis b (basis_of l)) else pending_differs p b
  pending_beside p b q (truth_operand d) = pending_differs p b
  pending_beside p b q (pending_operand r e) = numbers p r (later_basis b e)
  pending_beside p b q nil_operand = differ

  -- p is the constant's place
  abbrev pub constant_beside : Place → Const → Operand → Match
  constant_beside p k (typed d u w) = differ
  constant_beside p k (constant_operand l) = two_constants k l
  constant_beside p k (truth_operand d) = truth_beside k d
  constant_beside p k (pending_operand r e) = if is_number k then numbers (fixed p k) r (later_basis (basis_of k) e) else pending_differs r e
  constant_beside p k nil_operand = differ

  abbrev pub beside_other_truth : Expr → Operand → Match
  beside_other_truth c (typed d u w) = differ
  beside_other_truth c (constant_operand l) = beside_truth c l
  beside_other_truth c (truth_operand d) = truths c d
  beside_other_truth c (pending_operand r e) = pending_differs r e
  beside_other_truth c nil_operand = differ

  -- both untyped
  abbrev pub two_untyped : Place → Operand → Place → Operand → Match
  two_untyped p (typed c t v) q y = differ
  two_untyped p (constant_operand k) q y = constant_beside p k y
  two_untyped p (truth_operand c) q y = beside_other_truth c y
  two_untyped p (pending_operand x b) q y = pending_beside x b q y
  two_untyped p nil_operand q y = differ

  -- "Comparison operators": in a comparison one is assignable to the type of the other; elsewhere the types are identical
  abbrev pub two_typed : (compares : Bool) → Expr → Ty → Option Const → Expr → Ty → Option Const → Match
  two_typed compares c t v d u w =
      if same_type t u then alike t c v d w
      else if compares && goes_to ns t u then alike u (as_type c t u) v d w
      else if compares && goes_to ns u t then alike t c v (as_type d u t) w
      else differ

  -- the first is typed
  abbrev pub typed_beside : (compares : Bool) → Expr → Ty → Option Const → Place → Operand → Match
  typed_beside compares c t v q (typed d u w) = two_typed compares c t v d u w
  typed_beside compares c t v q y = right_taken t c v (passed_at ns q t y)

  abbrev pub untyped_beside : Place → Operand → Place → Operand → Match
  untyped_beside p x q (typed d u w) = left_taken (passed_at ns p u x) u d w
  untyped_beside p x q y = unless_unfit (no_type p x ++ no_type q y) (two_untyped p x q y)

  -- p and q are the places of the operands
  abbrev pub matched : (compares : Bool) → Place → Operand → Place → Operand → Match
  matched compares p (typed c t v) q y = typed_beside compares c t v q y
  matched compares p x q y = untyped_beside p x q y

  -- ---- arithmetic. own: a constant zero divisor of an integer (30) is told at the divisor

  abbrev pub divides_by_zero : Op → Option Const → Bool
  divides_by_zero op None = false
  divides_by_zero op (Some k) = zero_by op (whole_of k)

  abbrev pub integers : Place → Op → Ty → Expr → Option Const → Expr → Option Const → Answer
  integers at op t c (Some k) d (Some l) = folded at t (binary_answer op (number_kind (underlying ns t)) k l)
  integers at op t c v d w = value (core.binary op t c d) t None

  abbrev pub texts : Place → Ty → Expr → Option Const → Expr → Option Const → Answer
  texts at t c (Some k) d (Some l) = folded at t (binary_answer operator.Add None k l)
  texts at t c v d w = value (core.concat t c d) t None

  -- by the underlying type
  abbrev pub sum_of : Place → Op → Place → Ty → Ty → Expr → Option Const → Expr → Option Const → Answer
  sum_of at op q (ty.int name) t c v d w = if divides_by_zero op w then bad q 30 else integers at op t c v d w
  sum_of at op q ty.str t c v d w = if is_add op then texts at t c v d w else bad at 55
  sum_of at op q _ t c v d w = bad at 55

  abbrev pub sum_of_constants : Place → Op → Place → Const → Const → Answer
  sum_of_constants at op q (form.Bool b) l = bad at 55
  sum_of_constants at op q (form.Text s) l = if is_add op then folded_untyped at (binary_answer op None (form.Text s) l) else bad at 55
  sum_of_constants at op q k l = if divides_by_zero op (Some l) then bad q 30 else folded_untyped at (binary_answer op None k l)

  abbrev pub sum_of_numbers : Op → Place → Pending → Pending → Basis → Answer
  sum_of_numbers op q x (fixed r l) b = if divides_by_zero op (Some l) then bad q 30 else pending (joined op x (fixed r l)) b
  sum_of_numbers op q x y b = pending (joined op x y) b

  abbrev pub arithmetic : Place → Op → Place → Match → Answer
  arithmetic at op q (alike t c v d w) = sum_of at op q (underlying ns t) t c v d w
  arithmetic at op q (constants k l) = sum_of_constants at op q k l
  arithmetic at op q (truths c d) = bad at 55
  arithmetic at op q (numbers x y b) = sum_of_numbers op q x y b
  arithmetic at op q (unfit f fs) = wrong f fs
  arithmetic at op q differ = bad at 55

  -- ---- comparisons: an untyped boolean

  abbrev pub compared : Op → Ty → Expr → Expr → Expr
  compared operator.Eq t c d = core.equal false t ty.bool c d
  compared operator.Ne t c d = core.equal true t ty.bool c d
  compared op t c d = core.less op t ty.bool c d

  -- booleans, integers and strings are comparable, integers and strings ordered
  abbrev pub has_comparison : Op → Ty → Bool
  has_comparison op ty.bool = is_equality op
  has_comparison op (ty.int name) = true
  has_comparison op ty.str = true
  has_comparison op u = false

  abbrev pub constant_has_comparison : Op → Const → Bool
  constant_has_comparison op (form.Bool b) = is_equality op
  constant_has_comparison op k = true

  abbrev pub comparison_value : Place → Op → Ty → Expr → Option Const → Expr → Option Const → Answer
  comparison_value at op t c (Some k) d (Some l) = folded_untyped at (binary_answer op None k l)
  comparison_value at op t c v d w = truth_value (compared op t c d)

  abbrev pub numbers_compared : Op → Ty → Pending → Pending → Answer
  numbers_compared op t x y = unless (pending_flaws ns t x ++ pending_flaws ns t y) (truth_value (compared op t (pending_at t x) (pending_at t y)))

  abbrev pub comparison : Place → Op → Match → Answer
  comparison at op (alike t c v d w) = if has_comparison op (underlying ns t) then comparison_value at op t c v d w else bad at 56
  comparison at op (constants k l) = if constant_has_comparison op k then folded_untyped at (binary_answer op None k l) else bad at 56
  comparison at op (truths c d) = if is_equality op then truth_value (compared op ty.bool c d) else bad at 56
  comparison at op (numbers x y b) = numbers_compared op (default_type b) x y
  comparison at op (unfit f fs) = wrong f fs
  comparison at op differ = bad at 55

  -- ---- `&&` and `||`

  abbrev pub joined_by : Op → Ty → Expr → Expr → Expr
  joined_by operator.AndThen t c d = core.and_then t c d
  joined_by op t c d = core.or_else t c d

  abbrev pub logical_value : Place → Op → Ty → Expr → Option Const → Expr → Option Const → Answer
  logical_value at op t c (Some k) d (Some l) = folded at t (binary_answer op None k l)
  logical_value at op t c v d w = value (joined_by op t c d) t None

  abbrev pub logical_constants : Place → Op → Const → Const → Answer
  logical_constants at op (form.Bool b) l = folded_untyped at (binary_answer op None (form.Bool b) l)
  logical_constants at op k l = bad at 55

  abbrev pub logical : Place → Op → Match → Answer
  logical at op (alike t c v d w) = if is_bool (underlying ns t) then logical_value at op t c v d w else bad at 55
  logical at op (constants k l) = logical_constants at op k l
  logical at op (truths c d) = truth_value (joined_by op ty.bool c d)
  logical at op (numbers x y b) = unless (pending_flaws ns (default_type b) x ++ pending_flaws ns (default_type b) y) (bad at 55)
  logical at op (unfit f fs) = wrong f fs
  logical at op differ = bad at 55

  -- ---- the three rows

  abbrev pub on_operands : OpClass → Place → Op → Place → Operand → Place → Operand → Answer
  on_operands Arithmetic at op p x q y = arithmetic at op q (matched false p x q y)
  on_operands Comparison at op p x q y = comparison at op (matched true p x q y)
  on_operands Logical at op p x q y = logical at op (matched false p x q y)

  abbrev pub on_singles : OpClass → Place → Op → Place → Option Operand → Place → Option Operand → Answer
  on_singles class at op p (Some x) q (Some y) = on_operands class at op p x q y
  on_singles class at op p x q y = unless (no_value p x ++ no_value q y) (bad at 55)

  abbrev pub binary_row : OpClass → Place → Op → Part → Part → Answer
  binary_row class at op x y = where_known (is_known x.answer && is_known y.answer) (on_singles class at op x.place (single x.answer) y.place (single y.answer))
