-- Go specification (as of Go 1.17), "Order of evaluation": what a node does once its operands have been evaluated, which
-- is the last of its tasks.
use Rattle.std.specs.Prelude.{◌+◌, List, ◌∷◌, length}
use Rattle.go_core.specs.CoreTree as core
use Rattle.go_core.specs.CoreTree.{Expr, CorePlace, Stmt, bound, no_bound}
use Rattle.go_core.specs.Operator as operator
use Rattle.go_core.specs.Goroutine.{Task, operate, at_local, make_closure, only_where_true, only_where_false, bind_vars, drop_values, declare_var, assign, choose, begin_range, branch_to, call_with, go_with, defer_with, return_with, panic_with, recover_here, send_to, receive_from, close_channel, select_from, take_gate, add_to_gate, await_gate, yield_turn, print_values, exit_with, fatal_with}
use Rattle.go_core.specs.Opened.{has, one_if, indexes_of, pair_count, values_of, called_of, call_count, cases_of, cases_count}

abbrev pub applied : Expr → List Task → List Task
applied (core.constant t c) rest = operate (operator.give_constant c) 0 ∷ rest
applied (core.zero_value t) rest = operate (operator.give_zero t) 0 ∷ rest
applied (core.read t place) rest = operate (operator.read_place t) 1 ∷ rest
applied (core.address t place) rest = operate operator.to_address 1 ∷ rest
applied (core.unary op t e) rest = operate (operator.to_unary op t) 1 ∷ rest
applied (core.binary op t a b) rest = operate (operator.to_binary op t) 2 ∷ rest
applied (core.concat t a b) rest = operate operator.to_concat 2 ∷ rest
applied (core.equal negated t u a b) rest = operate (operator.to_equal negated t) 2 ∷ rest
applied (core.less op t u a b) rest = operate (operator.to_less op t) 2 ∷ rest
applied (core.and_then t a b) rest = only_where_true b ∷ rest
applied (core.or_else t a b) rest = only_where_false b ∷ rest
applied (core.not_ t e) rest = operate operator.to_not 1 ∷ rest
applied (core.convert from to e) rest = operate (operator.to_converted from to) 1 ∷ rest
applied (core.byte_at e i) rest = operate operator.to_byte 2 ∷ rest
applied (core.slice_of from t e low high limit) rest = operate (operator.to_slice from (has low) (has high) (has limit)) (1 + one_if low + one_if high + one_if limit) ∷ rest
applied (core.build t count es) rest = operate (operator.to_built t count (indexes_of es)) (length (indexes_of es)) ∷ rest
applied (core.build_map t ps) rest = operate (operator.to_built_map t) (pair_count ps + pair_count ps) ∷ rest
applied (core.closure t f) rest = make_closure f ∷ rest
applied (core.bind t n e) rest = operate (operator.to_bound n) 1 ∷ rest
applied (core.bind_dynamic t name package_ e) rest = operate (operator.to_bound_dynamic name package_) 1 ∷ rest
applied (core.call results callee es) rest = call_with (called_of callee) (call_count callee es) ∷ rest
applied (core.map_get t ok e key) rest = operate (operator.get_entry t ok) 2 ∷ rest
applied (core.len from e) rest = operate (operator.to_len from) 1 ∷ rest
applied (core.cap from e) rest = operate (operator.to_cap from) 1 ∷ rest
applied (core.append t from a b) rest = operate (operator.to_appended t) 2 ∷ rest
applied (core.copy_elems t from a b) rest = operate (operator.to_copied t) 2 ∷ rest
applied (core.make_slice t n capacity) rest = operate (operator.to_new_slice t) (1 + one_if capacity) ∷ rest
applied (core.make_map t count) rest = operate operator.to_new_map (one_if count) ∷ rest
applied (core.make_chan t capacity) rest = operate operator.to_new_channel (one_if capacity) ∷ rest
applied (core.new_ t) rest = operate (operator.to_new t) 0 ∷ rest
applied (core.wrap from t e) rest = operate (operator.to_interface from) 1 ∷ rest
applied (core.assert_ t ok e) rest = operate (operator.to_asserted t ok) 1 ∷ rest
applied (core.basic t e) rest = operate operator.to_basic 1 ∷ rest
applied (core.receive t ok e) rest = receive_from t ok ∷ rest
applied (core.recover_ t) rest = recover_here ∷ rest
applied (core.gate_make e) rest = operate operator.to_gate 1 ∷ rest
applied (core.gate_add e n) rest = add_to_gate ∷ rest
-- its fresh variables take their values, and then its body is evaluated
applied (core.let_in vars es body) rest = bind_vars vars ∷ rest

abbrev pub place_applied : CorePlace → List Task → List Task
place_applied (core.local_ v) rest = at_local v ∷ rest
place_applied (core.global n) rest = operate (operator.at_global n) 0 ∷ rest
place_applied (core.deref e) rest = operate operator.at_pointer 1 ∷ rest
place_applied (core.field t n place) rest = operate (operator.at_field t n) 1 ∷ rest
place_applied (core.elem t place i) rest = operate (operator.at_elem t) 2 ∷ rest
place_applied (core.slice_elem t e i) rest = operate (operator.at_slice_elem t) 2 ∷ rest

-- a statement that is only its parts does nothing itself
abbrev pub done : Stmt → List Task → List Task
done (core.perform e n) rest = drop_values n ∷ rest
done (core.declare v) rest = declare_var v ∷ rest
done (core.store targets es) rest = assign targets (values_of es) ∷ rest
done (core.map_delete t e key) rest = operate (operator.delete_entry t) 2 ∷ rest
done (core.if_ e a b) rest = choose a b ∷ rest
done (core.range_over label from e key value body) rest = begin_range (record { label = label; from = from; key = key; value = value; body = body }) ∷ rest
done (core.branch kind label) rest = branch_to kind label ∷ rest
done (core.send t e v) rest = send_to t ∷ rest
done (core.close_ e) rest = close_channel ∷ rest
done (core.select_step label cases has_default default_) rest = select_from label (cases_of cases) (cases_count cases) has_default default_ ∷ rest
done (core.gate_take e) rest = take_gate ∷ rest
done (core.gate_await e) rest = await_gate ∷ rest
done core.yield_ rest = yield_turn ∷ rest
done (core.go_call callee es) rest = go_with (called_of callee) (call_count callee es) ∷ rest
done (core.defer_call callee es) rest = defer_with (called_of callee) (call_count callee es) ∷ rest
done (core.return_ es) rest = return_with (values_of es) ∷ rest
done (core.panic_ e) rest = panic_with ∷ rest
done (core.print es ends_line) rest = print_values (values_of es) ends_line ∷ rest
done (core.exit_ e) rest = exit_with ∷ rest
done (core.fatal_ e) rest = fatal_with ∷ rest
done s rest = rest
