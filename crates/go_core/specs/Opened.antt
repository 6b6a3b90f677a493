-- Go specification (as of Go 1.17), "Order of evaluation": the tasks of an expression and of a statement, before
-- what remains. own: strictly from left to right. Opening is no step.
use Rattle.std.specs.Prelude.{ℕ, zero, suc, ◌+◌, List, [], ◌∷◌, Bool, true, false, Option, length}
use Rattle.go_type.specs.Tree.{Tys, no_tys, more_tys}
use Rattle.go_core.specs.CoreTree as core
use Rattle.go_core.specs.CoreTree.{Expr, Exprs, CorePlace, Bound, Elements, Pairs, Callee, Target, Stmt, Stmts, Tests, Clauses, Cases, Communication, no_exprs, expr, no_bound, bound, no_elements, element, no_pairs, pair, no_stmts, stmt, no_tests, test, no_clauses, clause, no_cases, case}
use Rattle.go_core.specs.Operator as operator
use Rattle.go_core.specs.Goroutine.{Task, Case, CaseKind, case_sends, case_receives, Called, the_function, the_method, the_value, the_dynamic, operate, at_local, make_closure, only_where_true, only_where_false, bind_vars, drop_values, declare_var, assign, choose, turn, choose_clause, choose_default, begin_range, leave, branch_to, call_with, go_with, defer_with, return_with, panic_with, recover_here, send_to, receive_from, close_channel, select_from, take_gate, add_to_gate, await_gate, yield_turn, print_values, exit_with, fatal_with}

abbrev pub has : Bound → Bool
has no_bound = false
has (bound e) = true

abbrev pub one_if : Bound → ℕ
one_if no_bound = 0
one_if (bound e) = 1

abbrev pub indexes_of : Elements → List ℕ
indexes_of no_elements = []
indexes_of (element i e es) = i ∷ indexes_of es

abbrev pub pair_count : Pairs → ℕ
pair_count no_pairs = 0
pair_count (pair k v ps) = suc (pair_count ps)

abbrev pub type_count : Tys → ℕ
type_count no_tys = 0
type_count (more_tys t ts) = suc (type_count ts)

abbrev pub one_or_two : Bool → ℕ
one_or_two false = 1
one_or_two true = 2

-- how many values an expression gives
abbrev pub value_count : Expr → ℕ
value_count (core.call results callee operands) = type_count results
value_count (core.map_get t ok x key) = one_or_two ok
value_count (core.assert_ t ok x) = one_or_two ok
value_count (core.receive t ok x) = one_or_two ok
value_count (core.let_in vars es body) = value_count body
value_count e = 1

abbrev pub values_of : Exprs → ℕ
values_of no_exprs = 0
values_of (expr e es) = value_count e + values_of es

-- so many operands before those of a call
abbrev pub callee_count : Callee → ℕ
callee_count (core.function f) = 0
callee_count (core.method n) = 0
callee_count (core.func_value e) = 1
callee_count (core.dynamic name package_ e) = 1

abbrev pub called_of : Callee → Called
called_of (core.function f) = the_function f
called_of (core.method n) = the_method n
called_of (core.func_value e) = the_value
called_of (core.dynamic name package_ e) = the_dynamic name package_

abbrev pub call_count : Callee → Exprs → ℕ
call_count c es = callee_count c + values_of es

abbrev mutual
  -- the tasks that give an expression's values
  pub evaluated : Expr → List Task → List Task
  evaluated (core.constant t c) rest = operate (operator.give_constant c) 0 ∷ rest
  evaluated (core.zero_value t) rest = operate (operator.give_zero t) 0 ∷ rest
  evaluated (core.read t place) rest = placed place (operate (operator.read_place t) 1 ∷ rest)
  evaluated (core.address t place) rest = placed place (operate operator.to_address 1 ∷ rest)
  evaluated (core.unary op t e) rest = evaluated e (operate (operator.to_unary op t) 1 ∷ rest)
  evaluated (core.binary op t a b) rest = evaluated a (evaluated b (operate (operator.to_binary op t) 2 ∷ rest))
  evaluated (core.concat t a b) rest = evaluated a (evaluated b (operate operator.to_concat 2 ∷ rest))
  evaluated (core.equal negated t u a b) rest = evaluated a (evaluated b (operate (operator.to_equal negated t) 2 ∷ rest))
  evaluated (core.less op t u a b) rest = evaluated a (evaluated b (operate (operator.to_less op t) 2 ∷ rest))
  evaluated (core.and_then t a b) rest = evaluated a (only_where_true b ∷ rest)
  evaluated (core.or_else t a b) rest = evaluated a (only_where_false b ∷ rest)
  evaluated (core.not_ t e) rest = evaluated e (operate operator.to_not 1 ∷ rest)
  evaluated (core.convert from to e) rest = evaluated e (operate (operator.to_converted from to) 1 ∷ rest)
  evaluated (core.byte_at e i) rest = evaluated e (evaluated i (operate operator.to_byte 2 ∷ rest))
  evaluated (core.slice_of from t e low high limit) rest =
      evaluated e (bound_first low (bound_first high (bound_first limit (operate (operator.to_slice from (has low) (has high) (has limit)) (1 + one_if low + one_if high + one_if limit) ∷ rest))))
  evaluated (core.build t count es) rest = elements_first es (operate (operator.to_built t count (indexes_of es)) (length (indexes_of es)) ∷ rest)
  evaluated (core.build_map t ps) rest = pairs_first ps (operate (operator.to_built_map t) (pair_count ps + pair_count ps) ∷ rest)
  evaluated (core.closure t f) rest = make_closure f ∷ rest
  evaluated (core.bind t n e) rest = evaluated e (operate (operator.to_bound n) 1 ∷ rest)
  evaluated (core.bind_dynamic t name package_ e) rest = evaluated e (operate (operator.to_bound_dynamic name package_) 1 ∷ rest)
  evaluated (core.call results callee es) rest = callee_first callee (all_evaluated es (call_with (called_of callee) (call_count callee es) ∷ rest))
  evaluated (core.map_get t ok e key) rest = evaluated e (evaluated key (operate (operator.get_entry t ok) 2 ∷ rest))
  evaluated (core.len from e) rest = evaluated e (operate (operator.to_len from) 1 ∷ rest)
  evaluated (core.cap from e) rest = evaluated e (operate (operator.to_cap from) 1 ∷ rest)
  evaluated (core.append t from a b) rest = evaluated a (evaluated b (operate (operator.to_appended t) 2 ∷ rest))
  evaluated (core.copy_elems t from a b) rest = evaluated a (evaluated b (operate (operator.to_copied t) 2 ∷ rest))
  evaluated (core.make_slice t n capacity) rest = evaluated n (bound_first capacity (operate (operator.to_new_slice t) (1 + one_if capacity) ∷ rest))
  evaluated (core.make_map t count) rest = bound_first count (operate operator.to_new_map (one_if count) ∷ rest)
  evaluated (core.make_chan t capacity) rest = bound_first capacity (operate operator.to_new_channel (one_if capacity) ∷ rest)
  evaluated (core.new_ t) rest = operate (operator.to_new t) 0 ∷ rest
  evaluated (core.wrap from t e) rest = evaluated e (operate (operator.to_interface from) 1 ∷ rest)
  evaluated (core.assert_ t ok e) rest = evaluated e (operate (operator.to_asserted t ok) 1 ∷ rest)
  evaluated (core.basic t e) rest = evaluated e (operate operator.to_basic 1 ∷ rest)
  evaluated (core.receive t ok e) rest = evaluated e (receive_from t ok ∷ rest)
  evaluated (core.recover_ t) rest = recover_here ∷ rest
  evaluated (core.gate_make e) rest = evaluated e (operate operator.to_gate 1 ∷ rest)
  evaluated (core.gate_add e n) rest = evaluated e (evaluated n (add_to_gate ∷ rest))
  evaluated (core.let_in vars es body) rest = all_evaluated es (bind_vars vars ∷ evaluated body rest)

  -- the tasks that give a place
  pub placed : CorePlace → List Task → List Task
  placed (core.local_ v) rest = at_local v ∷ rest
  placed (core.global n) rest = operate (operator.at_global n) 0 ∷ rest
  placed (core.deref e) rest = evaluated e (operate operator.at_pointer 1 ∷ rest)
  placed (core.field t n place) rest = placed place (operate (operator.at_field t n) 1 ∷ rest)
  placed (core.elem t place i) rest = placed place (evaluated i (operate (operator.at_elem t) 2 ∷ rest))
  placed (core.slice_elem t e i) rest = evaluated e (evaluated i (operate (operator.at_slice_elem t) 2 ∷ rest))

  pub all_evaluated : Exprs → List Task → List Task
  all_evaluated no_exprs rest = rest
  all_evaluated (expr e es) rest = evaluated e (all_evaluated es rest)

  pub bound_first : Bound → List Task → List Task
  bound_first no_bound rest = rest
  bound_first (bound e) rest = evaluated e rest

  pub elements_first : Elements → List Task → List Task
  elements_first no_elements rest = rest
  elements_first (element i e es) rest = evaluated e (elements_first es rest)

  pub pairs_first : Pairs → List Task → List Task
  pairs_first no_pairs rest = rest
  pairs_first (pair k v ps) rest = evaluated k (evaluated v (pairs_first ps rest))

  pub callee_first : Callee → List Task → List Task
  callee_first (core.function f) rest = rest
  callee_first (core.method n) rest = rest
  callee_first (core.func_value e) rest = evaluated e rest
  callee_first (core.dynamic name package_ e) rest = evaluated e rest

-- ---- left sides: their operands come first

abbrev pub operands_first : CorePlace → List Task → List Task
operands_first (core.local_ v) rest = rest
operands_first (core.global n) rest = rest
operands_first (core.deref e) rest = evaluated e rest
operands_first (core.field t n place) rest = operands_first place rest
operands_first (core.elem t place i) rest = operands_first place (evaluated i rest)
operands_first (core.slice_elem t e i) rest = evaluated e (evaluated i rest)

abbrev pub target_first : Target → List Task → List Task
target_first core.blank rest = rest
target_first (core.to_place t place) rest = operands_first place rest
target_first (core.to_entry t e key) rest = evaluated e (evaluated key rest)

abbrev pub targets_first : List Target → List Task → List Task
targets_first [] rest = rest
targets_first (t ∷ ts) rest = target_first t (targets_first ts rest)

-- ---- statements

-- a loop without a condition goes on
abbrev pub loop_opened : ℕ → Bound → Stmts → Stmts → List Task → List Task
loop_opened label no_bound body post rest = turn label no_bound body post ∷ rest
loop_opened label (bound e) body post rest = evaluated e (turn label (bound e) body post ∷ rest)

abbrev pub tests_opened : Tests → Clauses → Option ℕ → List Task → List Task
tests_opened no_tests clauses default_ rest = choose_default clauses default_ ∷ rest
tests_opened (test e n ts) clauses default_ rest = evaluated e (choose_clause n ts clauses default_ ∷ rest)

abbrev pub case_kind : Communication → CaseKind
case_kind (core.sends t e v) = case_sends t
case_kind (core.receives t e vars) = case_receives t vars

abbrev pub cases_of : Cases → List Case
cases_of no_cases = []
cases_of (case c body cs) = record { kind = case_kind c; body = body } ∷ cases_of cs

abbrev pub communication_first : Communication → List Task → List Task
communication_first (core.sends t e v) rest = evaluated e (evaluated v rest)
communication_first (core.receives t e vars) rest = evaluated e rest

-- channels and values to be sent, in the order of the text
abbrev pub cases_first : Cases → List Task → List Task
cases_first no_cases rest = rest
cases_first (case c body cs) rest = communication_first c (cases_first cs rest)

abbrev pub communication_count : Communication → ℕ
communication_count (core.sends t e v) = 2
communication_count (core.receives t e vars) = 1

abbrev pub cases_count : Cases → ℕ
cases_count no_cases = 0
cases_count (case c body cs) = communication_count c + cases_count cs

abbrev mutual
  -- the tasks of a statement
  pub opened : Stmt → List Task → List Task
  opened (core.sequence ss) rest = all_opened ss rest
  opened (core.perform e n) rest = evaluated e (drop_values n ∷ rest)
  opened (core.declare v) rest = declare_var v ∷ rest
  opened (core.store targets es) rest = targets_first targets (all_evaluated es (assign targets (values_of es) ∷ rest))
  opened (core.map_delete t e key) rest = evaluated e (evaluated key (operate (operator.delete_entry t) 2 ∷ rest))
  opened (core.if_ e a b) rest = evaluated e (choose a b ∷ rest)
  opened (core.loop label condition body post) rest = loop_opened label condition body post rest
  opened (core.switch_on label tests clauses default_) rest = tests_opened tests clauses default_ (leave label ∷ rest)
  opened (core.range_over label from e key value body) rest =
      evaluated e (begin_range (record { label = label; from = from; key = key; value = value; body = body }) ∷ rest)
  opened (core.labeled label body) rest = all_opened body (leave label ∷ rest)
  opened (core.branch kind label) rest = branch_to kind label ∷ rest
  opened (core.send t e v) rest = evaluated e (evaluated v (send_to t ∷ rest))
  opened (core.close_ e) rest = evaluated e (close_channel ∷ rest)
  opened (core.select_step label cases has_default default_) rest =
      cases_first cases (select_from label (cases_of cases) (cases_count cases) has_default default_ ∷ leave label ∷ rest)
  opened (core.gate_take e) rest = evaluated e (take_gate ∷ rest)
  opened (core.gate_await e) rest = evaluated e (await_gate ∷ rest)
  opened core.yield_ rest = yield_turn ∷ rest
  opened (core.go_call callee es) rest = callee_first callee (all_evaluated es (go_with (called_of callee) (call_count callee es) ∷ rest))
  opened (core.defer_call callee es) rest = callee_first callee (all_evaluated es (defer_with (called_of callee) (call_count callee es) ∷ rest))
  opened (core.return_ es) rest = all_evaluated es (return_with (values_of es) ∷ rest)
  opened (core.panic_ e) rest = evaluated e (panic_with ∷ rest)
  opened (core.print es ends_line) rest = all_evaluated es (print_values (values_of es) ends_line ∷ rest)
  opened (core.exit_ e) rest = evaluated e (exit_with ∷ rest)
  opened (core.fatal_ e) rest = evaluated e (fatal_with ∷ rest)

  pub all_opened : Stmts → List Task → List Task
  all_opened no_stmts rest = rest
  all_opened (stmt s ss) rest = opened s (all_opened ss rest)

-- the body of a clause, and of those that it falls through to
abbrev pub clause_opened : Clauses → ℕ → List Task → List Task
clause_opened no_clauses n rest = rest
clause_opened (clause body falls cs) (suc n) rest = clause_opened cs n rest
clause_opened (clause body true cs) zero rest = all_opened body (clause_opened cs zero rest)
clause_opened (clause body false cs) zero rest = all_opened body rest
