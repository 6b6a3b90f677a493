-- Own: the tag of a `switch` in a variable, and the cases of one clause.
use Rattle.std.specs.Prelude.{◌≡◌, ◌<◌, ◌≤◌, ℕ, List, [], ◌∷◌, ◌++◌, Bool, Option, Some, None, map, option_map, IfSome}
use Rattle.gj_base.specs.declared.place.Place.{Place}
use Rattle.go_syntax.specs.Tree as t
use Rattle.go_type.specs.Tree as ty
use Rattle.go_type.specs.Tree.{Ty}
use Rattle.go_type.specs.Levels.{tree_of}
use Rattle.go_type.specs.Table.{places, size, KeepsTrees}
use Rattle.go_type.specs.declared.table.TypeTable.{TypeTable}
use Rattle.go_core.specs.CoreTree as core
use Rattle.go_core.specs.CoreView.{stmt_view}
use Rattle.go_core.specs.declared.statement.CoreStmt.{CoreStmt}
use Rattle.go_core.specs.declared.statement.CoreTest.{CoreTest}
use Rattle.go_operands.specs.AnswerView.{flaw_view}
use Rattle.go_operands.specs.declared.answers.answer.Flaw.{Flaw}
use Rattle.go_operands.specs.EnvView.{table_of, env_of}
use Rattle.go_typing.specs.Walk.{fresh}
use Rattle.go_typing.specs.Statements as go
use Rattle.go_typing.specs.Statements.{Tests, condition_uses, default_flaws}
use Rattle.go_walk.specs.WalkView.{walk_of, Keeps}
use Rattle.go_walk.specs.declared.walk.walk.Walk.{Walk}
use Rattle.go_walk.specs.declared.cases.seen.ConstSet.{ConstSet}
use Rattle.go_define.specs.CaseView.{HasAll, tests_before}
use Rattle.go_body.specs.declared.leaf.tagged.Tagged.{Tagged}

-- the type of the variable; that of a tag that isn't typed is `bool`
abbrev pub tag_type : Option Ty → Ty
tag_type None = ty.bool
tag_type (Some v) = v

-- the statements that set the variable of this number
abbrev pub tag_stmts : ℕ → Ty → core.Expr → List core.Stmt
tag_stmts id u c = core.declare (record { id = id; type_ = u }) ∷ core.store (core.to_place u (core.local_ id) ∷ []) (core.expr c core.no_exprs) ∷ []

pub record IsTagged (x : t.MaybeExpr) (old new : Walk) (before after : List Flaw) (have now : List CoreStmt) (tag : Tagged) : Type 0 where
  pub told : (ts : List Ty) → map flaw_view after ≡ map flaw_view before ++ (go.tag_of (walk_of ts old) x).flaws
  pub core : (ts : List Ty) → Keeps (table_of new.env) ts → map (stmt_view ts) now ≡ map (stmt_view ts) have ++ tag_stmts old.next (tag_type (go.tag_of (walk_of ts old) x).type_) (go.tag_of (walk_of ts old) x).core
  pub walk : (ts : List Ty) → Keeps (table_of new.env) ts → walk_of ts new ≡ fresh (tag_type (go.tag_of (walk_of ts old) x).type_) (condition_uses x (walk_of ts old))
  pub type_ : (ts : List Ty) → option_map (tree_of (places (table_of new.env))) tag.ty ≡ (go.tag_of (walk_of ts old) x).type_
  pub number : tag.id.0 ≡ old.next
  pub below : IfSome tag.ty (λ t. t.0 < size (table_of new.env))
  pub env : env_of new.env ≡ env_of old.env
  pub kept : KeepsTrees (table_of old.env) (table_of new.env)
  pub counts : size (table_of old.env) ≤ size (table_of new.env)

-- what the cases of a clause add: their faults and their tests, and the set has their constants too
pub record Tested (at : Place) (r : Tests) (is_default had : Bool) (table : TypeTable) (before after : List Flaw) (have now : List CoreTest) (set : ConstSet) : Type 0 where
  pub told : map flaw_view after ≡ map flaw_view before ++ (default_flaws at is_default had ++ r.flaws)
  pub tests : (ts : List Ty) → Keeps table ts → (rest : core.Tests) → tests_before ts now rest ≡ tests_before ts have (r.tests rest)
  pub seen : HasAll set r.seen
