-- Own: clauses of a `switch` that are gone through one by one: what was made so far, with what is left.
use Rattle.std.specs.Prelude.{◌≡◌, ◌≤◌, ℕ, List, ◌++◌, Bool, Option, Some, None, map}
use Rattle.gj_base.specs.declared.place.Place.{Place}
use Rattle.go_const.specs.declared.constant.Const.{Const}
use Rattle.go_type.specs.Tree.{Ty}
use Rattle.go_type.specs.Table.{size, KeepsTrees}
use Rattle.go_core.specs.CoreTree as core
use Rattle.go_core.specs.CoreView.{tests_of, clauses_of}
use Rattle.go_core.specs.declared.statement.CoreTest.{CoreTest}
use Rattle.go_core.specs.declared.statement.CoreClause.{CoreClause}
use Rattle.go_walk.specs.ClauseView.{clause_view}
use Rattle.go_operands.specs.AnswerView.{flaw_view}
use Rattle.go_operands.specs.declared.answers.answer.Flaw.{Flaw}
use Rattle.go_operands.specs.EnvView.{table_of}
use Rattle.go_typing.specs.Walk as go
use Rattle.go_typing.specs.Walk.{Did, body}
use Rattle.go_typing.specs.Statements.{Tests, Clauses, default_flaws}
use Rattle.go_walk.specs.WalkView.{walk_of, depth, Keeps}
use Rattle.go_walk.specs.declared.walk.walk.Walk.{Walk}
use Rattle.go_define.specs.CaseView.{tests_before}
use Rattle.go_body.specs.Made.{clauses_before, first_default}
use Rattle.go_body.specs.declared.leaf.made.Made.{Made}

-- a number that is there already stays
abbrev pub or_later : Option ℕ → Option ℕ → Option ℕ
or_later None d = d
or_later (Some n) d = Some n

-- One clause more: its faults, tests and statements, and its number where it is the first `default`. The cases are typed in the
-- walk before, and `inside` says what is done from there on.
pub record ClauseDoes (at : Place) (r : go.Walk → Tests) (inside : go.Walk → Did) (number : ℕ) (is_default had onward : Bool) (old new : Walk) (before after : List Flaw) (t0 t1 : List CoreTest) (c0 c1 : List CoreClause) (d0 d1 : Option ℕ) : Type 0 where
  pub told : (ts : List Ty) → Keeps (table_of new.env) ts → map flaw_view after ≡ map flaw_view before ++ (default_flaws at is_default had ++ (r (walk_of ts old)).flaws ++ (inside (walk_of ts old)).flaws)
  pub tests : (ts : List Ty) → Keeps (table_of new.env) ts → (rest : core.Tests) → tests_before ts t1 rest ≡ tests_before ts t0 ((r (walk_of ts old)).tests rest)
  pub clauses : (ts : List Ty) → Keeps (table_of new.env) ts → (rest : core.Clauses) → clauses_before ts c1 rest ≡ clauses_before ts c0 (core.clause (body (inside (walk_of ts old)).core) onward rest)
  pub default_ : d1 ≡ first_default d0 is_default number
  pub walk : (ts : List Ty) → Keeps (table_of new.env) ts → walk_of ts new ≡ (inside (walk_of ts old)).walk
  pub depth : depth new ≡ depth old
  pub kept : KeepsTrees (table_of old.env) (table_of new.env)
  pub counts : size (table_of old.env) ≤ size (table_of new.env)

-- all clauses do in the walk before what was made, and those that are left do in the walk now
pub record ClausesLeft (all left : go.Walk → Clauses) (old now : Walk) (before after : List Flaw) (tests : List CoreTest) (clauses : List CoreClause) (default_so_far : Option ℕ) : Type 0 where
  pub told : (ts : List Ty) → Keeps (table_of now.env) ts → map flaw_view after ++ (left (walk_of ts now)).flaws ≡ map flaw_view before ++ (all (walk_of ts old)).flaws
  pub made_tests : (ts : List Ty) → Keeps (table_of now.env) ts → tests_before ts tests (left (walk_of ts now)).tests ≡ (all (walk_of ts old)).tests
  pub made_clauses : (ts : List Ty) → Keeps (table_of now.env) ts → clauses_before ts clauses (left (walk_of ts now)).clauses ≡ (all (walk_of ts old)).clauses
  pub made_default : (ts : List Ty) → Keeps (table_of now.env) ts → or_later default_so_far (left (walk_of ts now)).default_ ≡ (all (walk_of ts old)).default_
  pub walk : (ts : List Ty) → Keeps (table_of now.env) ts → (left (walk_of ts now)).walk ≡ (all (walk_of ts old)).walk
  pub depth : depth now ≡ depth old
  pub kept : KeepsTrees (table_of old.env) (table_of now.env)
  pub counts : size (table_of old.env) ≤ size (table_of now.env)

-- what all clauses make
pub record ClausesDo (r : go.Walk → Clauses) (old new : Walk) (before after : List Flaw) (made : Made) : Type 0 where
  pub told : (ts : List Ty) → Keeps (table_of new.env) ts → map flaw_view after ≡ map flaw_view before ++ (r (walk_of ts old)).flaws
  pub tests : (ts : List Ty) → Keeps (table_of new.env) ts → tests_of ts made.tests.items ≡ (r (walk_of ts old)).tests
  pub clauses : (ts : List Ty) → Keeps (table_of new.env) ts → clauses_of (map (clause_view ts) made.clauses.items) ≡ (r (walk_of ts old)).clauses
  pub default_ : (ts : List Ty) → Keeps (table_of new.env) ts → made.default ≡ (r (walk_of ts old)).default_
  pub walk : (ts : List Ty) → Keeps (table_of new.env) ts → walk_of ts new ≡ (r (walk_of ts old)).walk
  pub depth : depth new ≡ depth old
  pub kept : KeepsTrees (table_of old.env) (table_of new.env)
  pub counts : size (table_of old.env) ≤ size (table_of new.env)
