-- Expressions in statements: a value of a type, any value, a condition, a type, with all that is told of each.
use Rattle.std.specs.Prelude.{List, [], ◌∷◌, ◌++◌, Option, Some, None, if◌then◌else◌}
use Rattle.gj_base.specs.declared.place.Place.{Place}
use Rattle.go_const.specs.declared.constant.Const.{Const}
use Rattle.go_syntax.specs.Tree as t
use Rattle.go_type.specs.Tree as ty
use Rattle.go_type.specs.Tree.{Ty, Tys, no_tys, more_tys}
use Rattle.go_type.specs.Underlying.{underlying}
use Rattle.go_core.specs.CoreTree as core
use Rattle.go_typing.specs.Answer.{Flaw, flaw, Answer, value, type_, own, bad}
use Rattle.go_typing.specs.Operand.{is_bool}
use Rattle.go_typing.specs.Wanted.{wanted, wanted_alone, wanted_type}
use Rattle.go_typing.specs.Typing.{place_of, typing, flaws}
use Rattle.go_typing.specs.Walk.{Walk}

-- a value with what is told of it
pub record Valued : Type 0 where
  pub answer : Answer
  pub flaws : List Flaw

abbrev pub answer_in : Walk → t.Expr → Answer
answer_in w e = typing w.names w.scopes e

abbrev pub flaws_in : Walk → t.Expr → List Flaw
flaws_in w e = flaws w.names w.scopes e

abbrev pub valued : List Flaw → Answer → Valued
valued fs a = record { answer = a; flaws = fs ++ own a }

-- where a value of a type is wanted
abbrev pub value_at : Walk → Ty → t.Expr → Valued
value_at w u e = valued (flaws_in w e) (wanted w.names (place_of e) u (answer_in w e))

-- where any value is wanted
abbrev pub value_alone : Walk → t.Expr → Valued
value_alone w e = valued (flaws_in w e) (wanted_alone w.names (place_of e) (answer_in w e))

-- where a type is wanted
abbrev pub type_in : Walk → t.Expr → Valued
type_in w e = valued (flaws_in w e) (wanted_type (place_of e) (answer_in w e))

-- ---- conditions (86)

abbrev pub condition_of : Walk → Place → Answer → Answer
condition_of w at (value c u v) = if is_bool (underlying w.names u) then value c u v else bad at 86
condition_of w at a = a

abbrev pub condition_flaws : Walk → Place → Answer → List Flaw
condition_flaws w at (value c u v) = if is_bool (underlying w.names u) then [] else flaw at 86 ∷ []
condition_flaws w at a = []

abbrev pub checked_condition : Walk → Place → Valued → Valued
checked_condition w at x = record { answer = condition_of w at x.answer; flaws = x.flaws ++ condition_flaws w at x.answer }

-- own: an untyped condition is a `bool`
abbrev pub condition : Walk → t.Expr → Valued
condition w e = checked_condition w (place_of e) (value_alone w e)

-- the core of a value; where there is none the body has a fault
abbrev pub core_of : Answer → core.Expr
core_of (value c u v) = c
core_of _ = core.zero_value ty.bool

abbrev pub type_of : Answer → Option Ty
type_of (value c u v) = Some u
type_of (type_ u) = Some u
type_of _ = None

abbrev pub constant_of : Answer → Option Const
constant_of (value c u v) = v
constant_of _ = None

-- the several values of a call
abbrev pub several_types : Answer → Option Tys
several_types (value c (ty.tuple (more_tys u (more_tys v us))) k) = Some (more_tys u (more_tys v us))
several_types _ = None
