-- What is opened before nothing comes before what remains.
use Rattle.std.proofs.Common.{refl, ap, ◌∙◌}
use Rattle.std.specs.Prelude.{◌≡◌, ℕ, ◌+◌, Option, List, [], ◌∷◌, ◌++◌, length}
use Rattle.go_core.specs.CoreTree as core
use Rattle.go_core.specs.CoreTree.{Expr, Exprs, CorePlace, Bound, Elements, Pairs, Callee, Target, Stmt, Stmts, Tests, Clauses, Cases, Communication, no_exprs, expr, no_bound, bound as bound_, no_elements, element, no_pairs, pair, no_stmts, stmt, no_tests, test, no_cases, case}
use Rattle.go_core.specs.Operator as operator
use Rattle.go_core.specs.Goroutine.{Task, operate, only_where_true, only_where_false, bind_vars, drop_values, assign, choose, turn, choose_clause, begin_range, leave, call_with, go_with, defer_with, return_with, panic_with, send_to, receive_from, close_channel, select_from, take_gate, add_to_gate, await_gate, print_values, exit_with, fatal_with}
use Rattle.go_core.specs.Opened.{has, one_if, indexes_of, pair_count, values_of, called_of, call_count, evaluated, placed, all_evaluated, bound_first, elements_first, pairs_first, callee_first, operands_first, target_first, targets_first, loop_opened, tests_opened, cases_of, communication_first, cases_first, cases_count, opened, all_opened}

module _ (more : List Task) where
  mutual
    ev : (e : Expr) (rest : List Task) → evaluated e rest ++ more ≡ evaluated e (rest ++ more)
    ev (core.constant t c) rest = refl
    ev (core.zero_value t) rest = refl
    ev (core.read t place) rest = pl place (operate (operator.read_place t) 1 ∷ rest)
    ev (core.address t place) rest = pl place (operate operator.to_address 1 ∷ rest)
    ev (core.unary op t e) rest = ev e (operate (operator.to_unary op t) 1 ∷ rest)
    ev (core.binary op t a b) rest = let last = operate (operator.to_binary op t) 2 ∷ rest in ev a (evaluated b last) ∙ ap (evaluated a) (ev b last)
    ev (core.concat t a b) rest = let last = operate operator.to_concat 2 ∷ rest in ev a (evaluated b last) ∙ ap (evaluated a) (ev b last)
    ev (core.equal negated t u a b) rest = let last = operate (operator.to_equal negated t) 2 ∷ rest in ev a (evaluated b last) ∙ ap (evaluated a) (ev b last)
    ev (core.less op t u a b) rest = let last = operate (operator.to_less op t) 2 ∷ rest in ev a (evaluated b last) ∙ ap (evaluated a) (ev b last)
    ev (core.and_then t a b) rest = ev a (only_where_true b ∷ rest)
    ev (core.or_else t a b) rest = ev a (only_where_false b ∷ rest)
    ev (core.not_ t e) rest = ev e (operate operator.to_not 1 ∷ rest)
    ev (core.convert from to e) rest = ev e (operate (operator.to_converted from to) 1 ∷ rest)
    ev (core.byte_at e i) rest = let last = operate operator.to_byte 2 ∷ rest in ev e (evaluated i last) ∙ ap (evaluated e) (ev i last)
    ev (core.slice_of from t e low high limit) rest =
        let last = operate (operator.to_slice from (has low) (has high) (has limit)) (1 + one_if low + one_if high + one_if limit) ∷ rest in
        ev e (bound_first low (bound_first high (bound_first limit last))) ∙ ap (evaluated e) (bo low (bound_first high (bound_first limit last)) ∙ ap (bound_first low) (bo high (bound_first limit last) ∙ ap (bound_first high) (bo limit last)))
    ev (core.build t count es) rest = els es (operate (operator.to_built t count (indexes_of es)) (length (indexes_of es)) ∷ rest)
    ev (core.build_map t ps) rest = prs ps (operate (operator.to_built_map t) (pair_count ps + pair_count ps) ∷ rest)
    ev (core.closure t f) rest = refl
    ev (core.bind t n e) rest = ev e (operate (operator.to_bound n) 1 ∷ rest)
    ev (core.bind_dynamic t name package_ e) rest = ev e (operate (operator.to_bound_dynamic name package_) 1 ∷ rest)
    ev (core.call results callee es) rest = let last = call_with (called_of callee) (call_count callee es) ∷ rest in cal callee (all_evaluated es last) ∙ ap (callee_first callee) (evs es last)
    ev (core.map_get t ok e key) rest = let last = operate (operator.get_entry t ok) 2 ∷ rest in ev e (evaluated key last) ∙ ap (evaluated e) (ev key last)
    ev (core.len from e) rest = ev e (operate (operator.to_len from) 1 ∷ rest)
    ev (core.cap from e) rest = ev e (operate (operator.to_cap from) 1 ∷ rest)
    ev (core.append t from a b) rest = let last = operate (operator.to_appended t) 2 ∷ rest in ev a (evaluated b last) ∙ ap (evaluated a) (ev b last)
    ev (core.copy_elems t from a b) rest = let last = operate (operator.to_copied t) 2 ∷ rest in ev a (evaluated b last) ∙ ap (evaluated a) (ev b last)
    ev (core.make_slice t n capacity) rest =
        let last = operate (operator.to_new_slice t) (1 + one_if capacity) ∷ rest in ev n (bound_first capacity last) ∙ ap (evaluated n) (bo capacity last)
    ev (core.make_map t count) rest = bo count (operate operator.to_new_map (one_if count) ∷ rest)
    ev (core.make_chan t capacity) rest = bo capacity (operate operator.to_new_channel (one_if capacity) ∷ rest)
    ev (core.new_ t) rest = refl
    ev (core.wrap from t e) rest = ev e (operate (operator.to_interface from) 1 ∷ rest)
    ev (core.assert_ t ok e) rest = ev e (operate (operator.to_asserted t ok) 1 ∷ rest)
    ev (core.basic t e) rest = ev e (operate operator.to_basic 1 ∷ rest)
    ev (core.receive t ok e) rest = ev e (receive_from t ok ∷ rest)
    ev (core.recover_ t) rest = refl
    ev (core.gate_make e) rest = ev e (operate operator.to_gate 1 ∷ rest)
    ev (core.gate_add e n) rest = let last = add_to_gate ∷ rest in ev e (evaluated n last) ∙ ap (evaluated e) (ev n last)
    ev (core.let_in vars es body) rest = evs es (bind_vars vars ∷ evaluated body rest) ∙ ap (λ l. all_evaluated es (bind_vars vars ∷ l)) (ev body rest)

    pl : (c : CorePlace) (rest : List Task) → placed c rest ++ more ≡ placed c (rest ++ more)
    pl (core.local_ v) rest = refl
    pl (core.global n) rest = refl
    pl (core.deref e) rest = ev e (operate operator.at_pointer 1 ∷ rest)
    pl (core.field t n place) rest = pl place (operate (operator.at_field t n) 1 ∷ rest)
    pl (core.elem t place i) rest =
        let last = operate (operator.at_elem t) 2 ∷ rest in pl place (evaluated i last) ∙ ap (placed place) (ev i last)
    pl (core.slice_elem t e i) rest = let last = operate (operator.at_slice_elem t) 2 ∷ rest in ev e (evaluated i last) ∙ ap (evaluated e) (ev i last)

    evs : (es : Exprs) (rest : List Task) → all_evaluated es rest ++ more ≡ all_evaluated es (rest ++ more)
    evs no_exprs rest = refl
    evs (expr e es) rest = ev e (all_evaluated es rest) ∙ ap (evaluated e) (evs es rest)

    bo : (b : Bound) (rest : List Task) → bound_first b rest ++ more ≡ bound_first b (rest ++ more)
    bo no_bound rest = refl
    bo (bound_ e) rest = ev e rest

    els : (es : Elements) (rest : List Task) → elements_first es rest ++ more ≡ elements_first es (rest ++ more)
    els no_elements rest = refl
    els (element i e es) rest = ev e (elements_first es rest) ∙ ap (evaluated e) (els es rest)

    prs : (ps : Pairs) (rest : List Task) → pairs_first ps rest ++ more ≡ pairs_first ps (rest ++ more)
    prs no_pairs rest = refl
    prs (pair k v ps) rest = let last = pairs_first ps rest in ev k (evaluated v last) ∙ ap (evaluated k) (ev v last) ∙ ap (λ l. evaluated k (evaluated v l)) (prs ps rest)

    cal : (c : Callee) (rest : List Task) → callee_first c rest ++ more ≡ callee_first c (rest ++ more)
    cal (core.function f) rest = refl
    cal (core.method n) rest = refl
    cal (core.func_value e) rest = ev e rest
    cal (core.dynamic name package_ e) rest = ev e rest

  two : (a b : Expr) (rest : List Task) → evaluated a (evaluated b rest) ++ more ≡ evaluated a (evaluated b (rest ++ more))
  two a b rest = ev a (evaluated b rest) ∙ ap (evaluated a) (ev b rest)

  calls : (c : Callee) (es : Exprs) (rest : List Task) → callee_first c (all_evaluated es rest) ++ more ≡ callee_first c (all_evaluated es (rest ++ more))
  calls c es rest = cal c (all_evaluated es rest) ∙ ap (callee_first c) (evs es rest)

  place : (c : CorePlace) (rest : List Task) → operands_first c rest ++ more ≡ operands_first c (rest ++ more)
  place (core.local_ v) rest = refl
  place (core.global n) rest = refl
  place (core.deref e) rest = ev e rest
  place (core.field t n c) rest = place c rest
  place (core.elem t c i) rest = place c (evaluated i rest) ∙ ap (operands_first c) (ev i rest)
  place (core.slice_elem t e i) rest = two e i rest

  target : (t : Target) (rest : List Task) → target_first t rest ++ more ≡ target_first t (rest ++ more)
  target core.blank rest = refl
  target (core.to_place t c) rest = place c rest
  target (core.to_entry t e key) rest = two e key rest

  targets : (ts : List Target) (rest : List Task) → targets_first ts rest ++ more ≡ targets_first ts (rest ++ more)
  targets [] rest = refl
  targets (t ∷ ts) rest = target t (targets_first ts rest) ∙ ap (target_first t) (targets ts rest)

  communication : (c : Communication) (rest : List Task) → communication_first c rest ++ more ≡ communication_first c (rest ++ more)
  communication (core.sends t e v) rest = two e v rest
  communication (core.receives t e vars) rest = ev e rest

  cases : (cs : Cases) (rest : List Task) → cases_first cs rest ++ more ≡ cases_first cs (rest ++ more)
  cases no_cases rest = refl
  cases (case c body cs) rest = communication c (cases_first cs rest) ∙ ap (communication_first c) (cases cs rest)

  loop : (label : ℕ) (c : Bound) (body post : Stmts) (rest : List Task) → loop_opened label c body post rest ++ more ≡ loop_opened label c body post (rest ++ more)
  loop label no_bound body post rest = refl
  loop label (bound_ e) body post rest = ev e (turn label (bound_ e) body post ∷ rest)

  tests : (ts : Tests) (cl : Clauses) (d : Option ℕ) (rest : List Task) → tests_opened ts cl d rest ++ more ≡ tests_opened ts cl d (rest ++ more)
  tests no_tests cl d rest = refl
  tests (test e n ts) cl d rest = ev e (choose_clause n ts cl d ∷ rest)

  mutual
    one : (s : Stmt) (rest : List Task) → opened s rest ++ more ≡ opened s (rest ++ more)
    one (core.sequence ss) rest = all ss rest
    one (core.perform e n) rest = ev e (drop_values n ∷ rest)
    one (core.declare v) rest = refl
    one (core.store ts es) rest =
        let last = assign ts (values_of es) ∷ rest in targets ts (all_evaluated es last) ∙ ap (targets_first ts) (evs es last)
    one (core.map_delete t e key) rest = two e key (operate (operator.delete_entry t) 2 ∷ rest)
    one (core.if_ e a b) rest = ev e (choose a b ∷ rest)
    one (core.loop label c body post) rest = loop label c body post rest
    one (core.switch_on label ts clauses default_) rest = tests ts clauses default_ (leave label ∷ rest)
    one (core.range_over label from e key value body) rest = ev e (begin_range (record { label = label; from = from; key = key; value = value; body = body }) ∷ rest)
    one (core.labeled label body) rest = all body (leave label ∷ rest)
    one (core.branch kind label) rest = refl
    one (core.send t e v) rest = two e v (send_to t ∷ rest)
    one (core.close_ e) rest = ev e (close_channel ∷ rest)
    one (core.select_step label cs has_default default_) rest = cases cs (select_from label (cases_of cs) (cases_count cs) has_default default_ ∷ leave label ∷ rest)
    one (core.gate_take e) rest = ev e (take_gate ∷ rest)
    one (core.gate_await e) rest = ev e (await_gate ∷ rest)
    one core.yield_ rest = refl
    one (core.go_call callee es) rest = calls callee es (go_with (called_of callee) (call_count callee es) ∷ rest)
    one (core.defer_call callee es) rest = calls callee es (defer_with (called_of callee) (call_count callee es) ∷ rest)
    one (core.return_ es) rest = evs es (return_with (values_of es) ∷ rest)
    one (core.panic_ e) rest = ev e (panic_with ∷ rest)
    one (core.print es ends_line) rest = evs es (print_values (values_of es) ends_line ∷ rest)
    one (core.exit_ e) rest = ev e (exit_with ∷ rest)
    one (core.fatal_ e) rest = ev e (fatal_with ∷ rest)

    all : (ss : Stmts) (rest : List Task) → all_opened ss rest ++ more ≡ all_opened ss (rest ++ more)
    all no_stmts rest = refl
    all (stmt s ss) rest = one s (all_opened ss rest) ∙ ap (opened s) (all ss rest)

  pub opened_first : (ss : Stmts) → all_opened ss [] ++ more ≡ all_opened ss more
  opened_first ss = all ss []
