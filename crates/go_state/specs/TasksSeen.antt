-- The tasks of the definitions that those of the program stand for.
use Rattle.std.specs.Prelude.{ℕ, Bool, true, false, List, ◌∷◌, map, Option, Some, None, option_map, drop, slice_get}
use Rattle.go_type.specs.Tree.{Ty}
use Rattle.go_core.specs.CoreTree as core
use Rattle.go_core.specs.CoreTree.{Expr, Exprs, Bound, Pairs, Elements, Clauses, Cases, Tests, no_tests, test, Stmt, Stmts}
use Rattle.go_core.specs.Goroutine as task
use Rattle.go_core.specs.Opened.{evaluated, placed, all_evaluated, bound_first, elements_first, pairs_first, callee_first, operands_first, targets_first, cases_first, opened, all_opened, loop_opened, tests_opened, clause_opened}
use Rattle.go_core.specs.CoreView.{callee_step, expr_step, place_step, element_in, elements_in, expr_in, exprs_in, pair_in, pairs_in, place_in, stmt_step, case_in, cases_in, clause_in, clauses_in, stmt_in, stmts_in, expr_view, exprs_of, place_view, callee_view, elements_of, pairs_of, target_view, cases_of, stmt_view, stmts_of, stmts_view, clauses_of, tests_of, bound_of}
use Rattle.go_core.specs.declared.node.CoreExprs.{CoreExprs, out-CoreExprs}
use Rattle.go_core.specs.declared.node.CoreElements.{CoreElements, out-CoreElements, fold-CoreElements}
use Rattle.go_core.specs.declared.node.CorePairs.{CorePairs, out-CorePairs, fold-CorePairs}
use Rattle.go_core.specs.declared.statement.Targets.{Targets}
use Rattle.go_core.specs.declared.statement.CoreTests.{CoreTests}
use Rattle.go_core.specs.declared.statement.CoreStmts.{CoreStmts, out-CoreStmts}
use Rattle.go_core.specs.declared.statement.CoreClauses.{CoreClauses, out-CoreClauses, fold-CoreClauses}
use Rattle.go_core.specs.declared.statement.CoreCases.{CoreCases, out-CoreCases, fold-CoreCases}
use Rattle.go_core.specs.declared.node.CoreElement.{CoreElement, fold-CoreElement}
use Rattle.go_core.specs.declared.node.CorePair.{CorePair, fold-CorePair}
use Rattle.go_core.specs.declared.statement.CoreClause.{CoreClause, fold-CoreClause}
use Rattle.go_core.specs.declared.statement.CoreCase.{CoreCase, fold-CoreCase}
use Rattle.go_state.specs.Last.{applied, place_applied, done}
use Rattle.go_state.specs.declared.tasks.task.Task.{Task}
use Rattle.go_state.specs.declared.tasks.task.Task.TheVariants as held
use Rattle.go_state.specs.declared.tasks.task.ExprTask.{ExprTask}
use Rattle.go_state.specs.declared.tasks.task.ExprTask.TheVariants as expr_task
use Rattle.go_state.specs.declared.tasks.task.PlaceTask.{PlaceTask}
use Rattle.go_state.specs.declared.tasks.task.PlaceTask.TheVariants as place_task
use Rattle.go_state.specs.declared.tasks.task.LoopTask.{LoopTask}
use Rattle.go_state.specs.declared.tasks.task.LoopTask.TheVariants as loop_task
use Rattle.go_state.specs.declared.tasks.task.SwitchTask.{SwitchTask}
use Rattle.go_state.specs.declared.tasks.task.SwitchTask.TheVariants as switch_task
use Rattle.go_state.specs.declared.tasks.task.Loop.{Loop}
use Rattle.go_state.specs.declared.tasks.task.Pieces.{Pieces}

-- the bounds of a slice expression
abbrev pub bounds_first : Expr → List task.Task → List task.Task
bounds_first (core.slice_of from t e low high limit) rest = bound_first low (bound_first high (bound_first limit rest))
bounds_first e rest = rest

-- the first test has been evaluated, or there is none
abbrev pub chosen : Tests → Clauses → Option ℕ → List task.Task → List task.Task
chosen no_tests clauses default_ rest = task.choose_default clauses default_ ∷ rest
chosen (test e n ts) clauses default_ rest = task.choose_clause n ts clauses default_ ∷ rest

abbrev pub expr_first : ExprTask → Expr → List task.Task → List task.Task
expr_first expr_task.Evaluate e rest = evaluated e rest
expr_first expr_task.Bounds e rest = bounds_first e rest
expr_first expr_task.Apply e rest = applied e rest

abbrev pub place_first : PlaceTask → core.CorePlace → List task.Task → List task.Task
place_first place_task.Find p rest = placed p rest
place_first place_task.Operands p rest = operands_first p rest
place_first place_task.Apply p rest = place_applied p rest

abbrev pub loop_first : LoopTask → ℕ → Bound → Stmts → Stmts → List task.Task → List task.Task
loop_first loop_task.Begin label c body post rest = loop_opened label c body post rest
loop_first loop_task.Turn label c body post rest = task.turn label c body post ∷ rest
loop_first loop_task.Again label c body post rest = task.turn_again label c body post ∷ rest

abbrev pub switch_first : SwitchTask → Tests → Clauses → Option ℕ → List task.Task → List task.Task
switch_first switch_task.Test tests clauses default_ rest = tests_opened tests clauses default_ rest
switch_first switch_task.Choose tests clauses default_ rest = chosen tests clauses default_ rest

abbrev pub opened_at : Option Stmt → List task.Task → List task.Task
opened_at None rest = rest
opened_at (Some s) rest = opened s rest

abbrev pub done_at : Option Stmt → List task.Task → List task.Task
done_at None rest = rest
done_at (Some s) rest = done s rest

-- with the trees of the table's types
module _ (ts : List Ty) where
  abbrev pub element_view : CoreElement → Elements → Elements
  element_view = fold-CoreElement core.Callee Expr core.CorePlace (Elements → Elements) Elements Expr Exprs (Pairs → Pairs) Pairs core.CorePlace (callee_step ts) (expr_step ts) (place_step ts) (element_in ts) (elements_in ts) (expr_in ts) (exprs_in ts) (pair_in ts) (pairs_in ts) (place_in ts)

  abbrev pub pair_view : CorePair → Pairs → Pairs
  pair_view = fold-CorePair core.Callee Expr core.CorePlace (Elements → Elements) Elements Expr Exprs (Pairs → Pairs) Pairs core.CorePlace (callee_step ts) (expr_step ts) (place_step ts) (element_in ts) (elements_in ts) (expr_in ts) (exprs_in ts) (pair_in ts) (pairs_in ts) (place_in ts)

  abbrev pub clause_view : CoreClause → Clauses → Clauses
  clause_view = fold-CoreClause Stmt (Cases → Cases) Cases (Clauses → Clauses) Clauses Stmt Stmts (stmt_step ts) (case_in ts) (cases_in ts) (clause_in ts) (clauses_in ts) (stmt_in ts) (stmts_in ts)

  abbrev pub case_view : CoreCase → Cases → Cases
  case_view = fold-CoreCase Stmt (Cases → Cases) Cases (Clauses → Clauses) Clauses Stmt Stmts (stmt_step ts) (case_in ts) (cases_in ts) (clause_in ts) (clauses_in ts) (stmt_in ts) (stmts_in ts)

  abbrev pub elements_view : CoreElements → Elements
  elements_view = fold-CoreElements core.Callee Expr core.CorePlace (Elements → Elements) Elements Expr Exprs (Pairs → Pairs) Pairs core.CorePlace (callee_step ts) (expr_step ts) (place_step ts) (element_in ts) (elements_in ts) (expr_in ts) (exprs_in ts) (pair_in ts) (pairs_in ts) (place_in ts)

  abbrev pub pairs_view : CorePairs → Pairs
  pairs_view = fold-CorePairs core.Callee Expr core.CorePlace (Elements → Elements) Elements Expr Exprs (Pairs → Pairs) Pairs core.CorePlace (callee_step ts) (expr_step ts) (place_step ts) (element_in ts) (elements_in ts) (expr_in ts) (exprs_in ts) (pair_in ts) (pairs_in ts) (place_in ts)

  abbrev pub clauses_view : CoreClauses → Clauses
  clauses_view = fold-CoreClauses Stmt (Cases → Cases) Cases (Clauses → Clauses) Clauses Stmt Stmts (stmt_step ts) (case_in ts) (cases_in ts) (clause_in ts) (clauses_in ts) (stmt_in ts) (stmts_in ts)

  abbrev pub cases_view : CoreCases → Cases
  cases_view = fold-CoreCases Stmt (Cases → Cases) Cases (Clauses → Clauses) Clauses Stmt Stmts (stmt_step ts) (case_in ts) (cases_in ts) (clause_in ts) (clauses_in ts) (stmt_in ts) (stmts_in ts)

  -- nodes from a place on
  abbrev pub exprs_from : CoreExprs → ℕ → Exprs
  exprs_from es n = exprs_of (drop n (map (expr_view ts) (out-CoreExprs es).items.items))

  abbrev pub elements_from : CoreElements → ℕ → Elements
  elements_from es n = elements_of (drop n (map element_view (out-CoreElements es).items.items))

  abbrev pub pairs_from : CorePairs → ℕ → Pairs
  pairs_from ps n = pairs_of (drop n (map pair_view (out-CorePairs ps).items.items))

  abbrev pub targets_from : Targets → ℕ → List core.Target
  targets_from xs n = drop n (map (target_view ts) xs.items.items)

  abbrev pub cases_from : CoreCases → ℕ → Cases
  cases_from cs n = cases_of (drop n (map case_view (out-CoreCases cs).items.items))

  abbrev pub stmts_listed : CoreStmts → List Stmt
  stmts_listed ss = map (stmt_view ts) (out-CoreStmts ss).items.items

  abbrev pub stmts_from : CoreStmts → ℕ → Stmts
  stmts_from ss n = stmts_of (drop n (stmts_listed ss))

  abbrev pub clauses_from : CoreClauses → ℕ → Clauses
  clauses_from cs n = clauses_of (drop n (map clause_view (out-CoreClauses cs).items.items))

  abbrev pub tests_from : CoreTests → ℕ → Tests
  tests_from xs n = tests_of ts (drop n xs.items.items)

  abbrev pub condition_of : Loop → Bound
  condition_of l = bound_of (option_map (expr_view ts) l.condition.now)

  -- the tasks of a task, before what remains
  abbrev pub first_of : Task → List task.Task → List task.Task
  first_of held.Nothing rest = rest
  first_of (held.Expr what e) rest = expr_first what (expr_view ts e.now) rest
  first_of (held.Place what p) rest = place_first what (place_view ts p.now) rest
  first_of (held.Callee c) rest = callee_first (callee_view ts c.now) rest
  first_of (held.All es n) rest = all_evaluated (exprs_from es.now n) rest
  first_of (held.Elements es n) rest = elements_first (elements_from es.now n) rest
  first_of (held.Pairs ps n) rest = pairs_first (pairs_from ps.now n) rest
  first_of (held.Targets xs n) rest = targets_first (targets_from xs.now n) rest
  first_of (held.Cases cs n) rest = cases_first (cases_from cs.now n) rest
  first_of (held.One ss n) rest = opened_at (slice_get (stmts_listed ss.now) n) rest
  first_of (held.Run ss n) rest = all_opened (stmts_from ss.now n) rest
  first_of (held.Do ss n) rest = done_at (slice_get (stmts_listed ss.now) n) rest
  first_of (held.Loop what l) rest = loop_first what l.label.0 (condition_of l) (stmts_view ts l.body.now) (stmts_view ts l.post.now) rest
  first_of (held.Switch what s) rest = switch_first what (tests_from s.tests.now s.from) (clauses_from s.clauses.now 0) s.default rest
  first_of (held.Clause cs n) rest = clause_opened (clauses_from cs.now n) 0 rest
  first_of (held.Leave label) rest = task.leave label.0 ∷ rest

  abbrev pub pieces_first : Pieces → List task.Task → List task.Task
  pieces_first p rest = first_of p.0 (first_of p.1 (first_of p.2 rest))

-- what is opened into other tasks
abbrev pub is_opened : Task → Bool
is_opened held.Nothing = false
is_opened (held.Expr expr_task.Apply e) = false
is_opened (held.Place place_task.Apply p) = false
is_opened (held.Do ss n) = false
is_opened (held.Loop loop_task.Turn l) = false
is_opened (held.Loop loop_task.Again l) = false
is_opened (held.Switch switch_task.Choose s) = false
is_opened (held.Leave label) = false
is_opened _ = true
