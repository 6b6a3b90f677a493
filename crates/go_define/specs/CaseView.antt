-- The cases of a `switch` in code, and what they stand for.
use Rattle.std.specs.Prelude.{◌≡◌, ◌<◌, ℕ, List, [], ◌∷◌, ◌++◌, Option, Some, None, map, option_map, IfSome}
use Rattle.go_const.specs.declared.constant.Const.{Const}
use Rattle.go_syntax.specs.Tree as t
use Rattle.go_type.specs.Tree.{Ty}
use Rattle.go_type.specs.Levels.{tree_of}
use Rattle.go_type.specs.Table.{places, size}
use Rattle.go_type.specs.declared.types.TypeId.{TypeId}
use Rattle.go_type.specs.declared.table.TypeTable.{TypeTable}
use Rattle.go_core.specs.CoreTree as core
use Rattle.go_core.specs.CoreView.{expr_view}
use Rattle.go_core.specs.declared.statement.CoreTest.{CoreTest}
use Rattle.go_operands.specs.AnswerView.{flaw_view}
use Rattle.go_operands.specs.declared.answers.answer.Flaw.{Flaw}
use Rattle.gj_base.specs.declared.kind.Op.TheVariants as operator
use Rattle.go_type.specs.Named.{NamedTy}
use Rattle.go_typing.specs.Answer.{Answer, value, Part}
use Rattle.go_typing.specs.Typing.{operator_row}
use Rattle.go_expr.specs.Raw.{Raw}
use Rattle.go_typing.specs.Walk as go
use Rattle.go_typing.specs.Statements.{Tests, repeated, case_tests}
use Rattle.go_walk.specs.CasesHas.{has_const}
use Rattle.go_walk.specs.declared.cases.seen.ConstSet.{ConstSet}
use Rattle.go_walk.specs.WalkView.{Keeps}

-- a case, compared with a variable of the tag's type
abbrev pub part_row : List NamedTy → ℕ → Ty → Part → Answer
part_row ns tag u p = operator_row ns p.place operator.Eq (record { place = p.place; answer = value (core.read u (core.local_ tag)) u None }) p

abbrev pub case_row : List NamedTy → ℕ → Ty → Raw → Answer
case_row ns tag u r = part_row ns tag u r.part

-- these tests, before others
abbrev pub tests_before : List Ty → List CoreTest → core.Tests → core.Tests
tests_before ts [] after = after
tests_before ts (c ∷ cs) after = core.test (expr_view ts c.condition) c.clause (tests_before ts cs after)

-- a set has the constants of a list
abbrev pub HasAll : ConstSet → List Const → Type 0
HasAll s ks = (q : Const) → has_const q s ≡ repeated (Some q) ks

-- what cases add: their faults and their tests come after those that were there, and the set has their constants too
pub record Cases (r : Tests) (table : TypeTable) (before after : List Flaw) (have now : List CoreTest) (set : ConstSet) : Type 0 where
  pub told : map flaw_view after ≡ map flaw_view before ++ r.flaws
  pub tests : (ts : List Ty) → Keeps table ts → (rest : core.Tests) → tests_before ts now rest ≡ tests_before ts have (r.tests rest)
  pub seen : HasAll set r.seen

-- what is left of cases that are gone through: the constants so far, and what those that are left add
pub record CasesLeft (w : go.Walk) (tag : ℕ) (u : Option Ty) (number : ℕ) (all left : t.Exprs) (known : List Const) (table : TypeTable) (before now : List Flaw) (have tests_now : List CoreTest) (set : ConstSet) : Type 0 where
  pub so_far : List Const
  pub has : HasAll set so_far
  pub told : map flaw_view now ++ (case_tests w tag u number left so_far).flaws ≡ map flaw_view before ++ (case_tests w tag u number all known).flaws
  pub tests : (ts : List Ty) → Keeps table ts → (rest : core.Tests) → tests_before ts tests_now ((case_tests w tag u number left so_far).tests rest) ≡ tests_before ts have ((case_tests w tag u number all known).tests rest)
  pub seen : (case_tests w tag u number left so_far).seen ≡ (case_tests w tag u number all known).seen
