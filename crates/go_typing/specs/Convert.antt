-- Conversions, for boolean, integer and string types. Go specification (as of Go 1.17), "Conversions".
use Rattle.std.specs.Prelude.{List, [], ◌∷◌, Bool, true, false, if◌then◌else◌, Some, None}
use Rattle.gj_base.specs.declared.place.Place.{Place}
use Rattle.go_const.specs.declared.constant.Const.{Const}
use Rattle.go_const.specs.declared.constant.Const.TheVariants as form
use Rattle.go_const.specs.declared.constant.Basic.TheVariants as basic
use Rattle.go_const.specs.Answer.{conversion_of}
use Rattle.go_type.specs.Tree as ty
use Rattle.go_type.specs.Tree.{Ty}
use Rattle.go_type.specs.Named.{NamedTy}
use Rattle.go_type.specs.Underlying.{underlying}
use Rattle.go_core.specs.Layout.{kind_of}
use Rattle.go_core.specs.SameType.{same_type}
use Rattle.go_core.specs.CoreTree as core
use Rattle.go_core.specs.CoreTree.{Expr}
use Rattle.go_typing.specs.Answer.{Answer, value, bad, unless, where_known, all_known, Part}
use Rattle.go_typing.specs.Operand.{Operand, typed, constant_operand, truth_operand, pending_operand, nil_operand, folded, is_bool, truth_at, pending_flaws, pending_at}
use Rattle.go_typing.specs.Wanted.{no_values, operands_of}

-- the types whose rows are built
abbrev pub is_scalar : Ty → Bool
is_scalar ty.bool = true
is_scalar ty.str = true
is_scalar (ty.int name) = true
is_scalar _ = false

-- an integer constant becomes a string of one character; else the constant has the type's kind (58), and
-- the type holds it (32 at the operand)
abbrev pub converted_constant : Place → Place → Ty → Ty → Const → Answer
converted_constant at p t ty.bool (form.Bool b) = folded p t (conversion_of (form.Bool b) basic.Bool)
converted_constant at p t ty.str (form.Text s) = folded p t (conversion_of (form.Text s) basic.Str)
converted_constant at p t ty.str (form.Int z) = folded p t (conversion_of (form.Int z) basic.Str)
converted_constant at p t ty.str (form.Rune z) = folded p t (conversion_of (form.Rune z) basic.Str)
converted_constant at p t (ty.int name) (form.Int z) = folded p t (conversion_of (form.Int z) (basic.Int (kind_of name)))
converted_constant at p t (ty.int name) (form.Rune z) = folded p t (conversion_of (form.Rune z) (basic.Int (kind_of name)))
converted_constant at p t _ k = bad at 58

-- whether values that are no constants convert, by their underlying types
abbrev pub converts : Ty → Ty → Bool
converts (ty.int a) (ty.int b) = true
converts (ty.int a) ty.str = true
converts u w = same_type u w

module _ (ns : List NamedTy) where
  abbrev pub converted_typed : Place → Ty → Expr → Ty → Answer
  converted_typed at t c u = if converts (underlying ns u) (underlying ns t) then value (core.convert u t c) t None else bad at 58

  -- p is the operand's place
  abbrev pub converted : Place → Ty → Place → Operand → Answer
  converted at t p (typed c u None) = converted_typed at t c u
  converted at t p (typed c u (Some k)) = converted_constant at p t (underlying ns t) k
  converted at t p (constant_operand k) = converted_constant at p t (underlying ns t) k
  converted at t p (truth_operand c) = if is_bool (underlying ns t) then value (truth_at t c) t None else bad at 58
  converted at t p (pending_operand x b) = unless (pending_flaws ns t x) (value (pending_at t x) t None)
  converted at t p nil_operand = bad at 58

  -- of the type that is written, constants exactly (58)
  abbrev pub conversion_of_one : Place → Ty → Place → Operand → Answer
  conversion_of_one at t p x = if is_scalar (underlying ns t) then converted at t p x else bad at 0

  -- one operand (60)
  abbrev pub conversion_of_all : Place → Ty → List (Place × Operand) → Answer
  conversion_of_all at t (x ∷ []) = conversion_of_one at t x.0 x.1
  conversion_of_all at t _ = bad at 60

  abbrev pub conversion_row : Place → Ty → (spread : Bool) → List Part → Answer
  conversion_row at t spread xs =
      where_known (all_known xs) (unless (no_values xs) (if spread then bad at 60 else conversion_of_all at t (operands_of xs)))
