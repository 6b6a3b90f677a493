-- Own: what comes of a statement in code: its faults and its core are added, and the walk goes on.
use Rattle.std.specs.Prelude.{◌≡◌, ◌≤◌, List, ◌++◌, map}
use Rattle.go_type.specs.Tree.{Ty}
use Rattle.go_type.specs.Table.{size, KeepsTrees}
use Rattle.go_type.specs.declared.table.TypeTable.{TypeTable}
use Rattle.go_core.specs.CoreTree as core
use Rattle.go_core.specs.CoreView.{stmt_view}
use Rattle.go_typing.specs.Answer as typing
use Rattle.go_core.specs.declared.statement.CoreStmt.{CoreStmt}
use Rattle.go_operands.specs.AnswerView.{flaw_view}
use Rattle.go_operands.specs.declared.answers.answer.Flaw.{Flaw}
use Rattle.go_operands.specs.EnvView.{table_of}
use Rattle.go_typing.specs.Walk as go
use Rattle.go_typing.specs.Walk.{Did}
use Rattle.go_walk.specs.WalkView.{walk_of, depth, Keeps}
use Rattle.go_walk.specs.declared.walk.walk.Walk.{Walk}

-- Over each list of trees that has those of the table, what a statement does in the walk before it: its faults and its
-- core come after those that were there.
pub record Does (d : go.Walk → Did) (old new : Walk) (before after : List Flaw) (have now : List CoreStmt) : Type 0 where
  pub told : (ts : List Ty) → Keeps (table_of new.env) ts → map flaw_view after ≡ map flaw_view before ++ (d (walk_of ts old)).flaws
  pub core : (ts : List Ty) → Keeps (table_of new.env) ts → map (stmt_view ts) now ≡ map (stmt_view ts) have ++ (d (walk_of ts old)).core
  pub walk : (ts : List Ty) → Keeps (table_of new.env) ts → walk_of ts new ≡ (d (walk_of ts old)).walk
  -- open blocks and types stay
  pub depth : depth new ≡ depth old
  pub kept : KeepsTrees (table_of old.env) (table_of new.env)
  pub counts : size (table_of old.env) ≤ size (table_of new.env)

-- the same of what leaves the walk as it is: these faults and these statements come after those that were there
pub record Adds (table : TypeTable) (fs : List typing.Flaw) (ss : List core.Stmt) (before after : List Flaw) (have now : List CoreStmt) : Type 0 where
  pub told : map flaw_view after ≡ map flaw_view before ++ fs
  pub core : (ts : List Ty) → Keeps table ts → map (stmt_view ts) now ≡ map (stmt_view ts) have ++ ss
