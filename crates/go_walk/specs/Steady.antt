-- Own: a tree of the core stands for the same where the table of types grows: all its types are among the first n.
use Rattle.std.specs.Prelude.{◌≡◌, ℕ, ◌<◌, List, Option, map, option_map}
use Rattle.go_type.specs.Tree.{Ty}
use Rattle.go_type.specs.Levels.{tree_of, trees_of}
use Rattle.go_type.specs.declared.types.TypeId.{TypeId}
use Rattle.go_core.specs.CoreView.{expr_view, place_view, callee_view, exprs_of, bound_of}
use Rattle.go_core.specs.declared.node.CoreExpr.{CoreExpr}
use Rattle.go_core.specs.declared.node.CorePlace.{CorePlace}
use Rattle.go_core.specs.declared.node.Callee.{Callee}

-- the first n ids have the same trees
abbrev pub Agree : ℕ → List Ty → List Ty → Type 0
Agree n ts us = (i : TypeId) → i.0 < n → tree_of ts i ≡ tree_of us i

-- an expression that stands for the same wherever these do
pub record IsSteady (n : ℕ) (e : CoreExpr) : Type 0 where
  pub same : (ts us : List Ty) → Agree n ts us → expr_view ts e ≡ expr_view us e

-- the same of a bound that may be missing, of operands, and of types
pub record IsSteadyBound (n : ℕ) (e : Option CoreExpr) : Type 0 where
  pub same : (ts us : List Ty) → Agree n ts us → bound_of (option_map (expr_view ts) e) ≡ bound_of (option_map (expr_view us) e)

pub record AreSteady (n : ℕ) (es : List CoreExpr) : Type 0 where
  pub same : (ts us : List Ty) → Agree n ts us → exprs_of (map (expr_view ts) es) ≡ exprs_of (map (expr_view us) es)

pub record AreSteadyTypes (n : ℕ) (is : List TypeId) : Type 0 where
  pub same : (ts us : List Ty) → Agree n ts us → trees_of ts is ≡ trees_of us is

-- what is called, and what denotes storage, without a type in it
pub record IsSteadyCallee (f : Callee) : Type 0 where
  pub same : (ts us : List Ty) → callee_view ts f ≡ callee_view us f

pub record IsSteadyPlace (p : CorePlace) : Type 0 where
  pub same : (ts us : List Ty) → place_view ts p ≡ place_view us p
