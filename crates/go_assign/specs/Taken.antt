-- Own: what is taken from an answer, in code.
use Rattle.std.specs.Prelude.{◌≡◌, List, Option, Some, None, true, Bool}
use Rattle.go_type.specs.Tree.{Ty, Tys, more_tys}
use Rattle.go_type.specs.Tree as ty
use Rattle.go_typing.specs.Answer.{Answer, value}
use Rattle.go_typing.specs.Operand.{is_bool}
use Rattle.go_type.specs.Named.{NamedTy}
use Rattle.go_type.specs.Underlying.{underlying}
use Rattle.go_type.specs.declared.table.TypeTable.{TypeTable}
use Rattle.go_core.specs.CoreTree as core
use Rattle.go_core.specs.CoreView.{expr_view}
use Rattle.go_core.specs.declared.node.CoreExpr.{CoreExpr}
use Rattle.go_walk.specs.WalkView.{Keeps}

-- the type of a value
abbrev pub value_type : Answer → Option Ty
value_type (value c u v) = Some u
value_type _ = None

-- a value has a boolean type; what is no value decides nothing itself
abbrev pub decides_at : List NamedTy → Option Ty → Bool
decides_at ns (Some u) = is_bool (underlying ns u)
decides_at ns None = true

abbrev pub decides : List NamedTy → Answer → Bool
decides ns a = decides_at ns (value_type a)

-- two types at least
abbrev pub several_of : Tys → Option Tys
several_of (more_tys u (more_tys v us)) = Some (more_tys u (more_tys v us))
several_of _ = None

abbrev pub several_at : Ty → Option Tys
several_at (ty.tuple us) = several_of us
several_at _ = None

-- an expression of the core stands for this, also where the table has more types
pub record StandsFor (table : TypeTable) (c : core.Expr) (e : CoreExpr) : Type 0 where
  pub stands : (ts : List Ty) → Keeps table ts → expr_view ts e ≡ c
