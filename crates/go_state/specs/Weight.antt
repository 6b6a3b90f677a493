-- How much a task weighs: more than what it opens into. For measures alone.
use Rattle.std.specs.Prelude.{ℕ, ◌+◌, List, [], ◌∷◌, Option, Some, None, slice_get}
use Rattle.go_type.specs.Tree.{Ty}
use Rattle.go_core.specs.CoreTree as core
use Rattle.go_core.specs.CoreTree.{Expr, CorePlace, Exprs, no_exprs, expr, Bound, no_bound, bound, Elements, no_elements, element, Pairs, no_pairs, pair, Callee, Target, Communication, Stmt, Stmts, no_stmts, stmt, Tests, no_tests, test, Clauses, no_clauses, clause, Cases, no_cases, case}
use Rattle.go_core.specs.CoreView.{expr_view, place_view, callee_view}
use Rattle.go_state.specs.TasksSeen.{exprs_from, elements_from, pairs_from, targets_from, cases_from, stmts_listed, stmts_from, clauses_from, tests_from, condition_of}
use Rattle.go_state.specs.declared.tasks.task.Task.{Task}
use Rattle.go_state.specs.declared.tasks.task.Task.TheVariants as held
use Rattle.go_state.specs.declared.tasks.task.Pieces.{Pieces}
use Rattle.go_state.specs.declared.tasks.task.ExprTask.{ExprTask}
use Rattle.go_state.specs.declared.tasks.task.ExprTask.TheVariants as expr_task
use Rattle.go_state.specs.declared.tasks.task.PlaceTask.{PlaceTask}
use Rattle.go_state.specs.declared.tasks.task.PlaceTask.TheVariants as place_task
use Rattle.go_state.specs.declared.tasks.task.LoopTask.{LoopTask}
use Rattle.go_state.specs.declared.tasks.task.LoopTask.TheVariants as loop_task
use Rattle.go_state.specs.declared.tasks.task.SwitchTask.{SwitchTask}
use Rattle.go_state.specs.declared.tasks.task.SwitchTask.TheVariants as switch_task

abbrev mutual
  pub expr_weight : Expr → ℕ
  expr_weight (core.constant t c) = 2
  expr_weight (core.zero_value t) = 2
  expr_weight (core.read t place) = place_weight place + 2
  expr_weight (core.address t place) = place_weight place + 2
  expr_weight (core.unary op t e) = expr_weight e + 2
  expr_weight (core.binary op t a b) = expr_weight a + expr_weight b + 2
  expr_weight (core.concat t a b) = expr_weight a + expr_weight b + 2
  expr_weight (core.equal negated t u a b) = expr_weight a + expr_weight b + 2
  expr_weight (core.less op t u a b) = expr_weight a + expr_weight b + 2
  expr_weight (core.and_then t a b) = expr_weight a + 2
  expr_weight (core.or_else t a b) = expr_weight a + 2
  expr_weight (core.not_ t e) = expr_weight e + 2
  expr_weight (core.convert from to e) = expr_weight e + 2
  expr_weight (core.byte_at e i) = expr_weight e + expr_weight i + 2
  expr_weight (core.slice_of from t e low high limit) = expr_weight e + (bound_weight low + bound_weight high + bound_weight limit + 1) + 2
  expr_weight (core.build t count es) = elements_weight es + 2
  expr_weight (core.build_map t ps) = pairs_weight ps + 2
  expr_weight (core.closure t f) = 2
  expr_weight (core.bind t n e) = expr_weight e + 2
  expr_weight (core.bind_dynamic t name package_ e) = expr_weight e + 2
  expr_weight (core.call results callee es) = callee_weight callee + exprs_weight es + 2
  expr_weight (core.map_get t ok e key) = expr_weight e + expr_weight key + 2
  expr_weight (core.len from e) = expr_weight e + 2
  expr_weight (core.cap from e) = expr_weight e + 2
  expr_weight (core.append t from a b) = expr_weight a + expr_weight b + 2
  expr_weight (core.copy_elems t from a b) = expr_weight a + expr_weight b + 2
  expr_weight (core.make_slice t n capacity) = expr_weight n + bound_weight capacity + 2
  expr_weight (core.make_map t count) = bound_weight count + 2
  expr_weight (core.make_chan t capacity) = bound_weight capacity + 2
  expr_weight (core.new_ t) = 2
  expr_weight (core.wrap from t e) = expr_weight e + 2
  expr_weight (core.assert_ t ok e) = expr_weight e + 2
  expr_weight (core.basic t e) = expr_weight e + 2
  expr_weight (core.receive t ok e) = expr_weight e + 2
  expr_weight (core.recover_ t) = 2
  expr_weight (core.gate_make e) = expr_weight e + 2
  expr_weight (core.gate_add e n) = expr_weight e + expr_weight n + 2
  expr_weight (core.let_in vars es body) = exprs_weight es + expr_weight body + 2

  pub place_weight : CorePlace → ℕ
  place_weight (core.local_ v) = 2
  place_weight (core.global n) = 2
  place_weight (core.deref e) = expr_weight e + 2
  place_weight (core.field t n place) = place_weight place + 2
  place_weight (core.elem t place i) = place_weight place + expr_weight i + 2
  place_weight (core.slice_elem t e i) = expr_weight e + expr_weight i + 2

  pub exprs_weight : Exprs → ℕ
  exprs_weight no_exprs = 1
  exprs_weight (expr e es) = expr_weight e + exprs_weight es + 1

  pub bound_weight : Bound → ℕ
  bound_weight no_bound = 0
  bound_weight (bound e) = expr_weight e

  pub elements_weight : Elements → ℕ
  elements_weight no_elements = 1
  elements_weight (element i e es) = expr_weight e + elements_weight es + 1

  pub pairs_weight : Pairs → ℕ
  pairs_weight no_pairs = 1
  pairs_weight (pair k v ps) = expr_weight k + expr_weight v + pairs_weight ps + 1

  pub callee_weight : Callee → ℕ
  callee_weight (core.function f) = 1
  callee_weight (core.method n) = 1
  callee_weight (core.func_value e) = expr_weight e + 1
  callee_weight (core.dynamic name package_ e) = expr_weight e + 1

abbrev pub bounds_weight : Expr → ℕ
bounds_weight (core.slice_of from t e low high limit) = bound_weight low + bound_weight high + bound_weight limit + 1
bounds_weight e = 1

abbrev pub target_weight : Target → ℕ
target_weight core.blank = 0
target_weight (core.to_place t place) = place_weight place
target_weight (core.to_entry t e key) = expr_weight e + expr_weight key

abbrev pub targets_weight : List Target → ℕ
targets_weight [] = 1
targets_weight (t ∷ ts) = target_weight t + targets_weight ts + 1

abbrev pub communication_weight : Communication → ℕ
communication_weight (core.sends t e v) = expr_weight e + expr_weight v
communication_weight (core.receives t e vars) = expr_weight e

abbrev pub cases_weight : Cases → ℕ
cases_weight no_cases = 1
cases_weight (case c body cs) = communication_weight c + cases_weight cs + 1

-- the first of the tests
abbrev pub tests_weight : Tests → ℕ
tests_weight no_tests = 1
tests_weight (test e n ts) = expr_weight e + 1

abbrev mutual
  pub stmt_weight : Stmt → ℕ
  stmt_weight (core.sequence ss) = stmts_weight ss + 2
  stmt_weight (core.perform e n) = expr_weight e + 2
  stmt_weight (core.declare v) = 2
  stmt_weight (core.store targets es) = targets_weight targets + exprs_weight es + 2
  stmt_weight (core.map_delete t e key) = expr_weight e + expr_weight key + 2
  stmt_weight (core.if_ e a b) = expr_weight e + 2
  stmt_weight (core.loop label condition body post) = bound_weight condition + 2
  stmt_weight (core.switch_on label tests cs default_) = tests_weight tests + 2
  stmt_weight (core.range_over label from e key value body) = expr_weight e + 2
  stmt_weight (core.labeled label body) = stmts_weight body + 2
  stmt_weight (core.branch kind label) = 2
  stmt_weight (core.send t e v) = expr_weight e + expr_weight v + 2
  stmt_weight (core.close_ e) = expr_weight e + 2
  stmt_weight (core.select_step label cases has_default default_) = cases_weight cases + 2
  stmt_weight (core.gate_take e) = expr_weight e + 2
  stmt_weight (core.gate_await e) = expr_weight e + 2
  stmt_weight core.yield_ = 2
  stmt_weight (core.go_call callee es) = callee_weight callee + exprs_weight es + 2
  stmt_weight (core.defer_call callee es) = callee_weight callee + exprs_weight es + 2
  stmt_weight (core.return_ es) = exprs_weight es + 2
  stmt_weight (core.panic_ e) = expr_weight e + 2
  stmt_weight (core.print es ends_line) = exprs_weight es + 2
  stmt_weight (core.exit_ e) = expr_weight e + 2
  stmt_weight (core.fatal_ e) = expr_weight e + 2

  pub stmts_weight : Stmts → ℕ
  stmts_weight no_stmts = 1
  stmts_weight (stmt s ss) = stmt_weight s + stmts_weight ss + 1

abbrev pub stmt_weight_at : Option Stmt → ℕ
stmt_weight_at None = 1
stmt_weight_at (Some s) = stmt_weight s

abbrev pub clauses_weight : Clauses → ℕ
clauses_weight no_clauses = 1
clauses_weight (clause body falls cs) = stmts_weight body + clauses_weight cs + 1

abbrev pub expr_task_weight : ExprTask → Expr → ℕ
expr_task_weight expr_task.Evaluate e = expr_weight e
expr_task_weight expr_task.Bounds e = bounds_weight e
expr_task_weight expr_task.Apply e = 1

abbrev pub place_task_weight : PlaceTask → CorePlace → ℕ
place_task_weight place_task.Find p = place_weight p
place_task_weight place_task.Operands p = place_weight p
place_task_weight place_task.Apply p = 1

abbrev pub loop_task_weight : LoopTask → Bound → ℕ
loop_task_weight loop_task.Begin c = bound_weight c + 1
loop_task_weight _ c = 0

abbrev pub switch_task_weight : SwitchTask → Tests → ℕ
switch_task_weight switch_task.Test tests = tests_weight tests
switch_task_weight switch_task.Choose tests = 0

-- with the trees of the table's types
module _ (ts : List Ty) where
  -- what isn't opened weighs nothing but where a node has a task of its own
  abbrev pub weight : Task → ℕ
  weight (held.Expr what e) = expr_task_weight what (expr_view ts e.now)
  weight (held.Place what p) = place_task_weight what (place_view ts p.now)
  weight (held.Callee c) = callee_weight (callee_view ts c.now)
  weight (held.All es n) = exprs_weight (exprs_from ts es.now n)
  weight (held.Elements es n) = elements_weight (elements_from ts es.now n)
  weight (held.Pairs ps n) = pairs_weight (pairs_from ts ps.now n)
  weight (held.Targets xs n) = targets_weight (targets_from ts xs.now n)
  weight (held.Cases cs n) = cases_weight (cases_from ts cs.now n)
  weight (held.One ss n) = stmt_weight_at (slice_get (stmts_listed ts ss.now) n)
  weight (held.Run ss n) = stmts_weight (stmts_from ts ss.now n)
  weight (held.Do ss n) = 1
  weight (held.Loop what l) = loop_task_weight what (condition_of ts l)
  weight (held.Switch what s) = switch_task_weight what (tests_from ts s.tests.now s.from)
  weight (held.Clause cs n) = clauses_weight (clauses_from ts cs.now n)
  weight _ = 0

  abbrev pub pieces_weight : Pieces → ℕ
  pieces_weight p = weight p.0 + weight p.1 + weight p.2
