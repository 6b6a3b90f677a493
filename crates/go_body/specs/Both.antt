-- Own: what comes of two parts of a statement, one after the other, each with statements of its own.
use Rattle.std.specs.Prelude.{◌≡◌, ◌≤◌, List, ◌++◌, map}
use Rattle.go_type.specs.Tree.{Ty}
use Rattle.go_type.specs.Table.{size, KeepsTrees}
use Rattle.go_core.specs.CoreView.{stmt_view}
use Rattle.go_core.specs.declared.statement.CoreStmt.{CoreStmt}
use Rattle.go_operands.specs.AnswerView.{flaw_view}
use Rattle.go_operands.specs.declared.answers.answer.Flaw.{Flaw}
use Rattle.go_operands.specs.EnvView.{table_of}
use Rattle.go_typing.specs.Walk as go
use Rattle.go_typing.specs.Walk.{Did}
use Rattle.go_walk.specs.WalkView.{walk_of, depth, Keeps}
use Rattle.go_walk.specs.declared.walk.walk.Walk.{Walk}

pub record DoesBoth (d e : go.Walk → Did) (old new : Walk) (before after : List Flaw) (o0 o1 p0 p1 : List CoreStmt) : Type 0 where
  pub told : (ts : List Ty) → Keeps (table_of new.env) ts → map flaw_view after ≡ map flaw_view before ++ ((d (walk_of ts old)).flaws ++ (e (d (walk_of ts old)).walk).flaws)
  pub first : (ts : List Ty) → Keeps (table_of new.env) ts → map (stmt_view ts) o1 ≡ map (stmt_view ts) o0 ++ (d (walk_of ts old)).core
  pub second : (ts : List Ty) → Keeps (table_of new.env) ts → map (stmt_view ts) p1 ≡ map (stmt_view ts) p0 ++ (e (d (walk_of ts old)).walk).core
  pub walk : (ts : List Ty) → Keeps (table_of new.env) ts → walk_of ts new ≡ (e (d (walk_of ts old)).walk).walk
  pub depth : depth new ≡ depth old
  pub kept : KeepsTrees (table_of old.env) (table_of new.env)
  pub counts : size (table_of old.env) ≤ size (table_of new.env)
