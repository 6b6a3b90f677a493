-- Own: statements that are gone through one by one: what was done so far, with what is left.
use Rattle.std.specs.Prelude.{◌≡◌, ◌≤◌, List, ◌++◌, map}
use Rattle.go_type.specs.Tree.{Ty}
use Rattle.go_type.specs.Table.{size, KeepsTrees}
use Rattle.go_core.specs.CoreView.{stmt_view}
use Rattle.go_core.specs.declared.statement.CoreStmt.{CoreStmt}
use Rattle.go_operands.specs.AnswerView.{flaw_view}
use Rattle.go_operands.specs.declared.answers.answer.Flaw.{Flaw}
use Rattle.go_operands.specs.EnvView.{table_of}
use Rattle.go_typing.specs.Walk as go
use Rattle.go_typing.specs.Walk.{Did}
use Rattle.go_walk.specs.WalkView.{walk_of, depth, Keeps}
use Rattle.go_walk.specs.declared.walk.walk.Walk.{Walk}

-- all does in the walk before what was done, and what is left does in the walk now
pub record StmtsLeft (all left : go.Walk → Did) (old now : Walk) (before after : List Flaw) (have out : List CoreStmt) : Type 0 where
  pub told : (ts : List Ty) → Keeps (table_of now.env) ts → map flaw_view after ++ (left (walk_of ts now)).flaws ≡ map flaw_view before ++ (all (walk_of ts old)).flaws
  pub core : (ts : List Ty) → Keeps (table_of now.env) ts → map (stmt_view ts) out ++ (left (walk_of ts now)).core ≡ map (stmt_view ts) have ++ (all (walk_of ts old)).core
  pub walk : (ts : List Ty) → Keeps (table_of now.env) ts → (left (walk_of ts now)).walk ≡ (all (walk_of ts old)).walk
  pub depth : depth now ≡ depth old
  pub kept : KeepsTrees (table_of old.env) (table_of now.env)
  pub counts : size (table_of old.env) ≤ size (table_of now.env)
