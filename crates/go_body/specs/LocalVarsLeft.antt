-- Own: names and statements that are gone through one by one: what was done so far, with what is left.
use Rattle.std.specs.Prelude.{◌≡◌, ◌≤◌, List, [], ◌∷◌, ◌++◌, Option, map}
use Rattle.gj_base.specs.declared.place.Place.{Place}
use Rattle.go_type.specs.Tree.{Ty}
use Rattle.go_type.specs.Table.{size, KeepsTrees}
use Rattle.go_core.specs.CoreTree as core
use Rattle.go_core.specs.CoreView.{expr_view, stmt_view, target_view}
use Rattle.go_core.specs.declared.node.CoreExpr.{CoreExpr}
use Rattle.go_core.specs.declared.statement.CoreStmt.{CoreStmt}
use Rattle.go_core.specs.declared.statement.Target.{Target}
use Rattle.go_typing.specs.Answer as typing
use Rattle.go_operands.specs.AnswerView.{flaw_view}
use Rattle.go_operands.specs.declared.answers.answer.Flaw.{Flaw}
use Rattle.go_operands.specs.EnvView.{table_of}
use Rattle.go_syntax.specs.declared.tree.Name.{Name}
use Rattle.go_typing.specs.Walk as go
use Rattle.go_typing.specs.Walk.{Did, is_there, redeclared}
use Rattle.go_typing.specs.Assign.{Defined}
use Rattle.go_typing.specs.Declare.{declare_one, declare_stmts, declare_target}
use Rattle.go_walk.specs.WalkView.{walk_of, depth, Keeps}
use Rattle.go_walk.specs.declared.walk.walk.Walk.{Walk}
use Rattle.go_body.specs.LocalVarsSpecs.{cores_before}

-- all does in the walk before what was done, and what is left does in the walk now
pub record DoesLeft (all left : go.Walk → Did) (old now : Walk) (before after : List Flaw) (have out : List CoreStmt) : Type 0 where
  pub told : (ts : List Ty) → Keeps (table_of now.env) ts → map flaw_view after ++ (left (walk_of ts now)).flaws ≡ map flaw_view before ++ (all (walk_of ts old)).flaws
  pub core : (ts : List Ty) → Keeps (table_of now.env) ts → map (stmt_view ts) out ++ (left (walk_of ts now)).core ≡ map (stmt_view ts) have ++ (all (walk_of ts old)).core
  pub walk : (ts : List Ty) → Keeps (table_of now.env) ts → (left (walk_of ts now)).walk ≡ (all (walk_of ts old)).walk
  pub depth : depth now ≡ depth old
  pub kept : KeepsTrees (table_of old.env) (table_of now.env)
  pub counts : size (table_of old.env) ≤ size (table_of now.env)

-- a name that is declared with this type, where its scope hasn't it yet
pub record Puts (n : Name) (at : Option Place) (u : Option Ty) (old new : Walk) (have out : List CoreStmt) (g0 g1 : List Target) : Type 0 where
  pub core : (ts : List Ty) → Keeps (table_of old.env) ts → map (stmt_view ts) out ≡ map (stmt_view ts) have ++ declare_stmts at (walk_of ts old) u
  pub targets : (ts : List Ty) → Keeps (table_of old.env) ts → map (target_view ts) g1 ≡ map (target_view ts) g0 ++ declare_target at (walk_of ts old) u ∷ []
  pub walk : (ts : List Ty) → Keeps (table_of old.env) ts → walk_of ts new ≡ declare_one n at u (walk_of ts old)
  pub depth : depth new ≡ depth old
  pub table : table_of new.env ≡ table_of old.env

-- the same with what is told of the name and of its value, and with its value
pub record Names (n : Name) (u : Option Ty) (fs : List typing.Flaw) (cs : List core.Expr) (old new : Walk) (before after : List Flaw) (have out : List CoreStmt) (g0 g1 : List Target) (c0 c1 : List CoreExpr) : Type 0 where
  pub told : (ts : List Ty) → map flaw_view after ≡ map flaw_view before ++ (redeclared n (is_there n (walk_of ts old)) ++ fs)
  pub core : (ts : List Ty) → Keeps (table_of old.env) ts → map (stmt_view ts) out ≡ map (stmt_view ts) have ++ declare_stmts (is_there n (walk_of ts old)) (walk_of ts old) u
  pub targets : (ts : List Ty) → Keeps (table_of old.env) ts → map (target_view ts) g1 ≡ map (target_view ts) g0 ++ declare_target (is_there n (walk_of ts old)) (walk_of ts old) u ∷ []
  pub values : (ts : List Ty) → Keeps (table_of old.env) ts → map (expr_view ts) c1 ≡ map (expr_view ts) c0 ++ cs
  pub walk : (ts : List Ty) → Keeps (table_of old.env) ts → walk_of ts new ≡ declare_one n (is_there n (walk_of ts old)) u (walk_of ts old)
  pub depth : depth new ≡ depth old
  pub table : table_of new.env ≡ table_of old.env

-- names gone through: the left sides and the values are those so far
pub record DefinesLeft (all left : go.Walk → Defined) (old now : Walk) (before after : List Flaw) (have out : List CoreStmt) (gs : List Target) (cs : List CoreExpr) : Type 0 where
  pub told : (ts : List Ty) → Keeps (table_of now.env) ts → map flaw_view after ++ (left (walk_of ts now)).flaws ≡ map flaw_view before ++ (all (walk_of ts old)).flaws
  pub core : (ts : List Ty) → Keeps (table_of now.env) ts → map (stmt_view ts) out ++ (left (walk_of ts now)).before ≡ map (stmt_view ts) have ++ (all (walk_of ts old)).before
  pub targets : (ts : List Ty) → Keeps (table_of now.env) ts → map (target_view ts) gs ++ (left (walk_of ts now)).targets ≡ (all (walk_of ts old)).targets
  pub values : (ts : List Ty) → Keeps (table_of now.env) ts → cores_before (map (expr_view ts) cs) (left (walk_of ts now)).values ≡ (all (walk_of ts old)).values
  pub walk : (ts : List Ty) → Keeps (table_of now.env) ts → (left (walk_of ts now)).walk ≡ (all (walk_of ts old)).walk
  pub depth : depth now ≡ depth old
  pub table : table_of now.env ≡ table_of old.env
