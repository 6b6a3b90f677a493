-- Operators before an operand. Go specification (as of Go 1.17), "Arithmetic operators", "Logical operators": `+ - ^ !` before an operand.
use Rattle.std.specs.Prelude.{List, Bool, true, false, Option, Some, None, if◌then◌else◌}
use Rattle.gj_base.specs.declared.place.Place.{Place}
use Rattle.gj_base.specs.declared.kind.Op.{Op}
use Rattle.gj_base.specs.declared.kind.Op.TheVariants as operator
use Rattle.go_const.specs.declared.constant.Const.{Const}
use Rattle.go_const.specs.declared.constant.Const.TheVariants as form
use Rattle.go_const.specs.Answer.{unary_answer}
use Rattle.go_type.specs.Tree as ty
use Rattle.go_type.specs.Tree.{Ty}
use Rattle.go_type.specs.Named.{NamedTy}
use Rattle.go_type.specs.Underlying.{underlying}
use Rattle.go_core.specs.CoreTree as core
use Rattle.go_core.specs.CoreTree.{Expr}
use Rattle.go_typing.specs.Answer.{Answer, value, pending, signed, bad, unless, where_known, is_known, Part}
use Rattle.go_typing.specs.Operand.{Operand, typed, constant_operand, truth_operand, pending_operand, nil_operand, single, folded, folded_untyped, truth_value, is_int, is_bool, is_number, number_kind, default_type, pending_flaws}

abbrev pub is_not : Op → Bool
is_not operator.Not = true
is_not _ = false

-- `!` is of booleans, the others are of integers
abbrev pub has_operator : Op → Ty → Bool
has_operator operator.Not u = is_bool u
has_operator _ u = is_int u

abbrev pub constant_has_operator : Op → Const → Bool
constant_has_operator operator.Not (form.Bool b) = true
constant_has_operator operator.Not k = false
constant_has_operator op k = is_number k

abbrev pub with_operator : Op → Ty → Expr → Expr
with_operator operator.Not t c = core.not_ t c
with_operator op t c = core.unary op t c

module _ (ns : List NamedTy) where
  abbrev pub unary_value : Place → Op → Expr → Ty → Option Const → Answer
  unary_value at op c t None = value (with_operator op t c) t None
  unary_value at op c t (Some k) = folded at t (unary_answer op (number_kind (underlying ns t)) k)

  -- p is the operand's place
  abbrev pub unary_operand : Place → Op → Place → Option Operand → Answer
  unary_operand at op p None = bad p 52
  unary_operand at op p (Some (typed c t v)) = if has_operator op (underlying ns t) then unary_value at op c t v else bad at 54
  unary_operand at op p (Some (constant_operand k)) = if constant_has_operator op k then folded_untyped at (unary_answer op None k) else bad at 54
  unary_operand at op p (Some (truth_operand c)) = if is_not op then truth_value (core.not_ ty.bool c) else bad at 54
  unary_operand at op p (Some (pending_operand x b)) =
      if is_not op then unless (pending_flaws ns (default_type b) x) (bad at 54) else pending (signed op x) b
  unary_operand at op p (Some nil_operand) = bad p 73

  -- of the operand's type, an integer, or a boolean for `!` (54)
  abbrev pub unary_row : Place → Op → Part → Answer
  unary_row at op x = where_known (is_known x.answer) (unary_operand at op x.place (single x.answer))
