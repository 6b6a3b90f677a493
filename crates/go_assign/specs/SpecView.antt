-- Go specification (as of Go 1.17), "Constant declarations": types of specifications in code, and the value of a constant by
-- what its expression is typed as (go_typing, `constant_value`).
use Rattle.std.specs.Prelude.{ℕ, ◌<◌, List, [], ◌∷◌, ◌++◌, Bool, true, false, if◌then◌else◌, Option, Some, None, IfSome}
use Rattle.go_const.specs.declared.constant.Const.{Const}
use Rattle.go_type.specs.Tree as ty
use Rattle.go_type.specs.Tree.{Ty}
use Rattle.go_type.specs.Levels.{tree_of}
use Rattle.go_type.specs.Named.{NamedTy}
use Rattle.go_type.specs.Underlying.{underlying}
use Rattle.go_type.specs.declared.types.TypeId.{TypeId}
use Rattle.go_typing.specs.Env.{Decl, constant, unknown}
use Rattle.go_typing.specs.Answer.{flaw, untyped_part}
use Rattle.go_typing.specs.Convert.{is_scalar}
use Rattle.go_typing.specs.Expressions.{Valued}
use Rattle.go_typing.specs.Declare.{SpecType, no_type, of_type, lost_type, constant_flaws}
use Rattle.go_expr.specs.Raw.{Raw}
use Rattle.go_assign.specs.Settled.{at_type}
use Rattle.go_assign.specs.declared.constants.types.SpecType as code
use Rattle.go_assign.specs.declared.constants.types.SpecType.TheVariants as form

abbrev pub spec_view : List Ty → code.SpecType → SpecType
spec_view ts form.Missing = no_type
spec_view ts (form.Of t) = of_type (tree_of ts t)
spec_view ts form.Lost = lost_type

-- a type that is known is among the first n
abbrev pub TypeBelow : ℕ → Option TypeId → Type 0
TypeBelow n o = IfSome o (λ t. t.0 < n)

abbrev pub SpecBelow : ℕ → code.SpecType → Type 0
SpecBelow n form.Missing = Unit {0}
SpecBelow n (form.Of t) = t.0 < n
SpecBelow n form.Lost = Unit {0}

abbrev pub is_tuple : Ty → Bool
is_tuple (ty.tuple us) = true
is_tuple _ = false

-- ---- what a name stands for by the type and the constant of its value

abbrev pub decl_by : Option Ty → Option Const → Decl
decl_by None k = unknown
decl_by (Some u) None = unknown
decl_by (Some u) (Some k) = constant k u

-- ---- a value by what its expression is typed as

-- of a type
abbrev pub constant_at : List NamedTy → Ty → Raw → Valued
constant_at ns u r = let v = at_type ns u r in record { answer = v.answer; flaws = v.flaws ++ constant_flaws r.part.place v.answer }

-- of a type that no constant has
abbrev pub unscalar : Raw → Valued
unscalar r = record { answer = untyped_part; flaws = r.flaws ++ flaw r.part.place 61 ∷ [] }

abbrev pub constant_raw : List NamedTy → SpecType → Raw → Valued
constant_raw ns no_type r = record { answer = r.part.answer; flaws = r.flaws ++ constant_flaws r.part.place r.part.answer }
constant_raw ns lost_type r = record { answer = untyped_part; flaws = r.flaws }
constant_raw ns (of_type u) r = if is_scalar (underlying ns u) then constant_at ns u r else unscalar r
