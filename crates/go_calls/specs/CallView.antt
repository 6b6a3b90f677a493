-- What arguments and values stand for: those of the definitions, with types as trees.
use Rattle.std.specs.Prelude.{ℕ, ◌<◌, List, [], ◌∷◌, Option, Some, None, map}
use Rattle.std.specs.List.{AllByRecursion}
use Rattle.gj_base.specs.declared.place.Place.{Place}
use Rattle.go_type.specs.Tree.{Ty, Tys, no_tys, more_tys}
use Rattle.go_type.specs.Tree as ty
use Rattle.go_type.specs.Levels.{tree_of}
use Rattle.go_core.specs.declared.node.CoreExpr.{CoreExpr}
use Rattle.go_core.specs.CoreTree.{Exprs}
use Rattle.go_core.specs.CoreView.{expr_view, exprs_of}
use Rattle.go_typing.specs.Answer.{Part}
use Rattle.go_typing.specs.Operand as operands
use Rattle.go_typing.specs.Call as calls
use Rattle.go_operands.specs.AnswerView.{flaws_view, first_of, others_of, operand_view}
use Rattle.go_operands.specs.Below.{OperandBelow}
use Rattle.go_operands.specs.declared.operands.part.Part as parts
use Rattle.go_operands.specs.Parts.{part_view, PartBelow}
use Rattle.go_calls.specs.declared.given.kinds.Placed.{Placed}
use Rattle.go_calls.specs.declared.given.kinds.Given.{Given}
use Rattle.go_calls.specs.declared.given.kinds.Given.TheVariants as givens
use Rattle.go_calls.specs.declared.given.kinds.Operands.{Operands}
use Rattle.go_calls.specs.declared.given.kinds.Operands.TheVariants as holding
use Rattle.go_calls.specs.declared.given.kinds.Values.{Values}
use Rattle.go_calls.specs.declared.given.kinds.Values.TheVariants as valued

-- the parts of a call, in order
abbrev pub parts_view : List Ty → List parts.Part → List Part
parts_view ts ps = map (part_view ts) ps

abbrev pub PartsBelow : ℕ → List parts.Part → Type 0
PartsBelow n ps = AllByRecursion (PartBelow n) ps

abbrev pub placed_view : List Ty → Placed → Place × operands.Operand
placed_view ts x = (x.place, operand_view ts x.value)

-- operands in order, where the last one is held first
abbrev pub operands_after : List Ty → List Placed → List (Place × operands.Operand) → List (Place × operands.Operand)
operands_after ts [] after = after
operands_after ts (x ∷ xs) after = operands_after ts xs (placed_view ts x ∷ after)

abbrev pub operands_view : List Ty → List Placed → List (Place × operands.Operand)
operands_view ts xs = operands_after ts xs []

abbrev pub PlacedBelow : ℕ → Placed → Type 0
PlacedBelow n x = OperandBelow n x.value

abbrev pub AllBelow : ℕ → List Placed → Type 0
AllBelow n xs = AllByRecursion (PlacedBelow n) xs

-- the types of several values
abbrev pub types_in : Ty → Tys
types_in (ty.tuple us) = us
types_in _ = no_tys

-- what isn't typed stands for nothing here: no row comes to it
abbrev pub given_view : List Ty → Given → Option calls.Given
given_view ts (givens.Each xs) = Some (calls.each (operands_view ts xs.items))
given_view ts (givens.Several p f) = Some (calls.several p (expr_view ts f.core) (types_in (tree_of ts f.ty)))
given_view ts (givens.Refused fs) = Some (calls.no_givens (first_of (flaws_view fs)) (others_of (flaws_view fs)))
given_view ts givens.Unknown = None

abbrev pub exprs_in : List Ty → List CoreExpr → Exprs
exprs_in ts es = exprs_of (map (expr_view ts) es)

abbrev pub values_view : List Ty → Values → calls.Values
values_view ts (valued.Values es) = calls.values (exprs_in ts es.items)
values_view ts (valued.Unfit fs) = calls.unfit (first_of (flaws_view fs)) (others_of (flaws_view fs))

-- the types of what a call is given are among the first n
abbrev pub GivenBelow : ℕ → Given → Type 0
GivenBelow n (givens.Each xs) = AllBelow n xs.items
GivenBelow n (givens.Several p f) = f.ty.0 < n
GivenBelow n _ = Unit {0}

abbrev pub OperandsBelow : ℕ → Operands → Type 0
OperandsBelow n (holding.Each xs) = AllBelow n xs.items
OperandsBelow n _ = Unit {0}
