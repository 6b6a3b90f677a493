use Rattle.std.proofs.Common.{◌≡◌, ◌∙◌, refl, sym, ap, arith, List, [], ◌∷◌, suc, Some, map, ◌+◌, ◌-◌}
use Rattle.js_eval.proofs.Follows.{stops_then}
use Rattle.js_eval.proofs.Parts.{stopped, value_goes, condition_stops, condition_true, condition_false, condition_is_true, condition_is_false, stops_value, value_in_goes, frame_stops}
use Rattle.js_eval.proofs.evaluate.+evaluate.Goals as goal
use Rattle.js_tree.specs.Value.{gives}
use Rattle.js_tree.specs.Script.{Name}
use Rattle.std.specs.Prelude.{option_map}
use Rattle.std.proofs.lemmas.List.{map-append, length-map}
use Rattle.js_tree.specs.View.{expr_view, stmts_view, item_view, function_view, last_case}
use Rattle.js_tree.specs.Evaluate as part
use Rattle.js_tree.specs.Evaluate.{frame}
use Rattle.js_value.specs.ValueSeen.{value_of, values_of, entries_of}
use Rattle.js_value.specs.declared.value.value.Value.{Value}
use Rattle.js_eval.specs.Weight.{expr_weight, exprs_weight, stmts_weight, cases_weight}
use Rattle.js_eval.specs.Does.{test_in, cases_do}
use Rattle.js_eval.specs.Seen.{setting_of, scope_of, world_of, frame_of, flow_of, names_of}
use Rattle.js_eval.proofs.Weighed.{expr_in, stmt_in}
use Rattle.js_eval.proofs.Steps.{frame_goes, gives_frame}
use Rattle.js_eval.proofs.Views.{view_Name, view_Unary, view_And, view_Or, view_Conditional, view_Length, view_Pop, view_Array, view_Decimal, view_FromCharCode, view_Declare, view_Assign, view_Store, view_Perform, view_Push, view_Delete, view_If, view_While, view_Forever, view_Switch, view_Return, view_Throw, view_Try}
use Rattle.js_eval.proofs.Forms.{binary_is, index_is, char_code_is, substring_is, call_is, dropped_is, view_Nothing, view_Block, view_ElseIf, call_value_as, enters}
use Rattle.js_eval.proofs.Loops.{goes, stops_as, gives_as, stmts_at, exprs_at, cases_at, last_of, stmts_next, stmts_left, stmts_go_on, stmts_done, exprs_next, exprs_pushed, exprs_done, cases_next_at, cases_left, cases_go_on, cases_done, last_does, none_does, turns_more, turns_no_more, turn_begins, turn_runs, turn_ends, turn_leaves, last_goes, last_ends, case_in, last_in}

pub branch-returns-in_err-condition : goal.branch-returns-in_err-condition
branch-returns-in_err-condition t c = record { value = λ d. stopped d _ c.from_residual.result _ _ _ _ c.from_residual.ensures.1 (stops_value d _ _ _ _ _ (rw c.deref.ensures.value at (c.in_err-condition.ensures.value d))) }

pub branch-returns-then-branch : goal.branch-returns-then-branch
branch-returns-then-branch t c = record { value = λ d. value_in_goes d _ _ _ _ _ _ _ _ _ (rw c.deref.ensures.value at (c.in_ok-condition.ensures.value d)) (rw c.if-branch.true (c.exec_all.ensures.value d)) }

pub branch-returns-in-Nothing : goal.branch-returns-in-Nothing
branch-returns-in-Nothing t c = record { value = λ d. rw (rw c.deref.ensures.value at (c.in_ok-condition.ensures.value d)) (rw c.if-branch.false (rw (view_Nothing c.args.other.now c.in-Nothing.is) refl)) }

pub branch-returns-in-Block : goal.branch-returns-in-Block
branch-returns-in-Block t c = record { value = λ d. value_in_goes d _ _ _ _ _ _ _ _ _ (rw c.deref.ensures.value at (c.in_ok-condition.ensures.value d)) (rw c.if-branch.false (rw (view_Block c.args.other.now c.in-Block.body c.in-Block.is) (c.exec_all-in-Block.ensures.value d))) }

pub branch-returns-in-ElseIf : goal.branch-returns-in-ElseIf
branch-returns-in-ElseIf t c = record { value = λ d. value_in_goes d _ _ _ _ _ _ _ _ _ (rw c.deref.ensures.value at (c.in_ok-condition.ensures.value d)) (rw c.if-branch.false (rw (view_ElseIf c.args.other.now c.in-ElseIf.next c.in-ElseIf.is) (rw (c.deref-in-ElseIf.ensures, c.deref-in-ElseIf-2.ensures, c.deref-in-ElseIf-3.ensures, c.deref-in-ElseIf-4.ensures) at (c.branch-context.ensures.value d)))) }

pub call-returns-in_err-u : goal.call-returns-in_err-u
call-returns-in_err-u t c = record { value = λ d. stopped d _ c.from_residual.result _ _ _ _ c.from_residual.ensures.1 (stops_then d _ _ _ _ _ (c.in_err-u.ensures.value d)) }

pub call-returns-in_err-vs : goal.call-returns-in_err-vs
call-returns-in_err-vs t c = record { value = λ d. value_goes d _ _ _ _ _ _ _ _ (c.in_ok-u.ensures.value d) (stopped d _ c.from_residual-in_err-vs.result _ _ _ _ c.from_residual-in_err-vs.ensures.1 (stops_then d _ _ _ _ _ (c.in_err-vs.ensures.value d))) }

pub call-returns : goal.call-returns
call-returns t c = record { value = λ d. value_goes d _ _ _ _ _ _ _ _ (c.in_ok-u.ensures.value d) (value_goes d _ _ _ _ _ _ _ _ (c.in_ok-vs.ensures.value d) (c.call_value.ensures.value d)) }

pub call_value-returns-in_err-tick-in-Some-find_function : goal.call_value-returns-in_err-tick-in-Some-find_function
call_value-returns-in_err-tick-in-Some-find_function t c = record { value = λ d. stopped d _ c.from_residual.result _ _ _ _ c.from_residual.ensures.1 (stops_as d _ _ _ _ _ (call_value_as (setting_of c.args.context.now d) c.args.at (value_of c.args.callee.now) c.in-Function.x.now c.as_bytes.result.now c.as_bytes-in-None.result.now (map item_view c.as_slice-in-None.result.now) (function_view c.in-Some-find_function.f.now) (values_of c.args.values.items) (world_of c.args.world.now) (ap value_of c.in-Function.is) c.as_bytes.ensures c.as_bytes-in-None.ensures c.in-None.ensures.value c.in-Some-find_function.ensures.value (ap (map item_view) c.as_slice-in-None.ensures.value) (omega (arith, length-map c.args.values.items value_of))) (stops_then d _ _ _ _ _ (c.in_err-tick-in-Some-find_function.ensures.value d))) }

pub call_value-returns-in-Some-find_function : goal.call_value-returns-in-Some-find_function
call_value-returns-in-Some-find_function t c = record { value = λ d. gives_as d _ _ _ _ _ _ (call_value_as (setting_of c.args.context.now d) c.args.at (value_of c.args.callee.now) c.in-Function.x.now c.as_bytes.result.now c.as_bytes-in-None.result.now (map item_view c.as_slice-in-None.result.now) (function_view c.in-Some-find_function.f.now) (values_of c.args.values.items) (world_of c.args.world.now) (ap value_of c.in-Function.is) c.as_bytes.ensures c.as_bytes-in-None.ensures c.in-None.ensures.value c.in-Some-find_function.ensures.value (ap (map item_view) c.as_slice-in-None.ensures.value) (omega (arith, length-map c.args.values.items value_of))) (value_goes d _ _ _ _ _ _ _ _ (c.in_ok-tick-in-Some-find_function.ensures.value d) (c.enter.ensures.value d)) }

pub cases-exec_all-requires : goal.cases-exec_all-requires
cases-exec_all-requires t c = let k = ap cases_weight (cases_at c.args.list.now c.deref-c-items.result.now c.deref-c-items.ensures.value) in let w = last_in c.deref-c-items.result.now (last_of c.args.list.now) in let z = ap (λ o. cases_weight (last_case (option_map stmts_view o))) c.in-Some.is in (omega (arith, k, w, z), tt)

pub cases-returns-in_err-flow : goal.cases-returns-in_err-flow
cases-returns-in_err-flow t c = record { value = λ d. stopped d _ c.from_residual.result _ _ _ _ c.from_residual.ensures.1 (stops_as d _ _ _ _ _ (cases_next_at (setting_of c.args.context.now d) (scope_of c.args.scope.now) c.args.list.now c.deref-c-items.result.now c.loop-c.c-index c.c-item.result c.loop-c.runs c.starts-runs.result (value_of c.args.v.now) (frame_of c.args.locals.now.items c.args.world.now) (frame_of c.loop-c.locals.items c.loop-c.world) c.deref-c-items.ensures.value (c.loop-c.invariant d) c.loop-c-test.true c.c-item.is c.starts-runs.ensures.value) (stops_then d _ _ _ _ _ (c.in_err-flow.ensures.value d))) }

pub cases-returns-then-leaves : goal.cases-returns-then-leaves
cases-returns-then-leaves t c = record { value = λ d. cases_left (setting_of c.args.context.now d) (scope_of c.args.scope.now) c.args.list.now c.deref-c-items.result.now c.loop-c.c-index c.c-item.result c.loop-c.runs c.starts-runs.result (value_of c.args.v.now) (frame_of c.args.locals.now.items c.args.world.now) (frame_of c.loop-c.locals.items c.loop-c.world) (frame_of c.when.new.locals.items c.when.new.world) (flow_of c.in_ok-flow.flow) c.deref-c-items.ensures.value (c.loop-c.invariant d) c.loop-c-test.true c.c-item.is c.starts-runs.ensures.value (c.in_ok-flow.ensures.value d) (sym c.leaves.ensures.value ∙ c.if-leaves.true) }

pub cases-loop-c-preserved : goal.cases-loop-c-preserved
cases-loop-c-preserved t c = λ d. cases_go_on (setting_of c.args.context.now d) (scope_of c.args.scope.now) (last_of c.args.list.now) c.deref-c-items.result.now c.loop-c.c-index c.c-item.result c.loop-c.runs c.starts-runs.result (value_of c.args.v.now) (frame_of c.args.locals.now.items c.args.world.now) (frame_of c.loop-c.locals.items c.loop-c.world) (frame_of c.when.new.locals.items c.when.new.world) (flow_of c.in_ok-flow.flow) (c.loop-c.invariant d) c.loop-c-test.true c.c-item.is c.starts-runs.ensures.value (c.in_ok-flow.ensures.value d) (sym c.leaves.ensures.value ∙ c.if-leaves.false)

pub cases-returns-in-Some : goal.cases-returns-in-Some
cases-returns-in-Some t c = record { value = λ d. gives_as d _ _ _ _ _ _ (cases_done (setting_of c.args.context.now d) (scope_of c.args.scope.now) c.args.list.now c.deref-c-items.result.now c.loop-c.c-index c.loop-c.runs (value_of c.args.v.now) (frame_of c.args.locals.now.items c.args.world.now) (frame_of c.loop-c.locals.items c.loop-c.world) c.deref-c-items.ensures.value (c.loop-c.invariant d) c.loop-c-test.false ∙ (ap (λ o. cases_do c.loop-c.runs (setting_of c.args.context.now d) (scope_of c.args.scope.now) (last_case (option_map stmts_view o)) (value_of c.args.v.now) (frame_of c.loop-c.locals.items c.loop-c.world)) c.in-Some.is ∙ last_does (setting_of c.args.context.now d) (scope_of c.args.scope.now) (stmts_view c.in-Some.body) c.loop-c.runs (value_of c.args.v.now) (frame_of c.loop-c.locals.items c.loop-c.world))) (c.exec_all.ensures.value d) }

pub cases-returns-in-None : goal.cases-returns-in-None
cases-returns-in-None t c = record { value = λ d. cases_done (setting_of c.args.context.now d) (scope_of c.args.scope.now) c.args.list.now c.deref-c-items.result.now c.loop-c.c-index c.loop-c.runs (value_of c.args.v.now) (frame_of c.args.locals.now.items c.args.world.now) (frame_of c.loop-c.locals.items c.loop-c.world) c.deref-c-items.ensures.value (c.loop-c.invariant d) c.loop-c-test.false ∙ (ap (λ o. cases_do c.loop-c.runs (setting_of c.args.context.now d) (scope_of c.args.scope.now) (last_case (option_map stmts_view o)) (value_of c.args.v.now) (frame_of c.loop-c.locals.items c.loop-c.world)) c.in-None.is ∙ none_does (setting_of c.args.context.now d) (scope_of c.args.scope.now) c.loop-c.runs (value_of c.args.v.now) (frame_of c.loop-c.locals.items c.loop-c.world)) }

pub condition-returns-in_err-v : goal.condition-returns-in_err-v
condition-returns-in_err-v t c = record { value = λ d. stopped d _ c.from_residual.result _ _ _ _ c.from_residual.ensures.1 (stops_then d _ _ _ _ _ (c.in_err-v.ensures.value d)) }

pub condition-returns : goal.condition-returns
condition-returns t c = record { value = λ d. value_goes d _ _ _ _ _ _ _ _ (c.in_ok-v.ensures.value d) (c.truth_of.ensures.value d _) }

pub enter-returns : goal.enter-returns
enter-returns t c = record { value = λ d. enters d c.exec_all.result c.call_result.result (setting_of c.in_ok-inner.inner d) (function_view c.args.f.now) (values_of c.args.values.items) (world_of c.args.world.now) (frame_of c.exec_all.new.locals.items c.exec_all.new.world) (names_of c.as_slice.result.now) (entries_of c.in_ok-locals.locals.items) _ (c.in_ok-inner.ensures.value d (function_view c.args.f.now) (values_of c.args.values.items) (world_of c.args.world.now)) (ap names_of c.as_slice.ensures.value ∙ c.in_ok-names.ensures.value) (c.in_ok-locals.ensures.value ∙ (ap (λ (ps : List Name). part.bound ps (values_of c.as_slice-3.result.now)) c.as_slice-2.ensures.value ∙ ap (λ (vs : List Value). part.bound c.args.f.now.params.items (values_of vs)) c.as_slice-3.ensures.value)) c.call_result.ensures.value (c.exec_all.ensures.value d) }

pub eval-returns-in_err-v-in-Unary : goal.eval-returns-in_err-v-in-Unary
eval-returns-in_err-v-in-Unary t c = record { value = λ d. rw (view_Unary c.args.e.now c.in-Unary.op c.in-Unary.a c.in-Unary.is) (stopped d _ c.from_residual-in_err-v-in-Unary.result _ _ _ _ c.from_residual-in_err-v-in-Unary.ensures.1 (stops_then d _ _ _ _ _ (rw c.deref.ensures at (c.in_err-v-in-Unary.ensures.value d)))) }

pub eval-returns-in_err-u-in-Binary : goal.eval-returns-in_err-u-in-Binary
eval-returns-in_err-u-in-Binary t c = record { value = λ d. stopped d _ c.from_residual-in_err-u-in-Binary.result _ _ _ _ c.from_residual-in_err-u-in-Binary.ensures.1 (stops_as d _ _ _ _ _ (binary_is (setting_of c.args.context.now d) (scope_of c.args.scope.now) (entries_of c.args.locals.now) c.args.e.now c.in-Binary.op c.in-Binary.a c.in-Binary.b (world_of c.args.world.now) c.in-Binary.is) (stops_then d _ _ _ _ _ (rw (c.deref-in-Binary.ensures, c.deref-in-Binary-2.ensures) at (c.in_err-u-in-Binary.ensures.value d)))) }

pub eval-returns-in_err-condition-in-And : goal.eval-returns-in_err-condition-in-And
eval-returns-in_err-condition-in-And t c = record { value = λ d. rw (view_And c.args.e.now c.in-And.a c.in-And.b c.in-And.is) (stopped d _ c.from_residual-in_err-condition-in-And.result _ _ _ _ c.from_residual-in_err-condition-in-And.ensures.1 (condition_stops d _ _ _ _ _ (rw c.deref-in-And.ensures at (c.in_err-condition-in-And.ensures.value d)))) }

pub eval-returns-then-branch : goal.eval-returns-then-branch
eval-returns-then-branch t c = record { value = λ d. rw (view_And c.args.e.now c.in-And.a c.in-And.b c.in-And.is) (condition_true d _ _ _ _ _ _ _ _ _ _ (rw c.deref-in-And.ensures at (c.in_ok-condition-in-And.ensures.value d)) c.if-branch.true (rw c.deref-then-branch.ensures at (c.eval-then-branch.ensures.value d))) }

pub eval-returns-in_err-condition-in-Or : goal.eval-returns-in_err-condition-in-Or
eval-returns-in_err-condition-in-Or t c = record { value = λ d. rw (view_Or c.args.e.now c.in-Or.a c.in-Or.b c.in-Or.is) (stopped d _ c.from_residual-in_err-condition-in-Or.result _ _ _ _ c.from_residual-in_err-condition-in-Or.ensures.1 (condition_stops d _ _ _ _ _ (rw c.deref-in-Or.ensures at (c.in_err-condition-in-Or.ensures.value d)))) }

pub eval-returns-then-branch-2 : goal.eval-returns-then-branch-2
eval-returns-then-branch-2 t c = record { value = λ d. rw (view_Or c.args.e.now c.in-Or.a c.in-Or.b c.in-Or.is) (condition_is_true _ _ _ _ _ _ (rw c.deref-in-Or.ensures at (c.in_ok-condition-in-Or.ensures.value d)) c.if-branch-2.true) }

pub eval-returns-in_err-condition-in-Conditional : goal.eval-returns-in_err-condition-in-Conditional
eval-returns-in_err-condition-in-Conditional t c = record { value = λ d. rw (view_Conditional c.args.e.now c.in-Conditional.test c.in-Conditional.a c.in-Conditional.b c.in-Conditional.is) (stopped d _ c.from_residual-in_err-condition-in-Conditional.result _ _ _ _ c.from_residual-in_err-condition-in-Conditional.ensures.1 (condition_stops d _ _ _ _ _ (rw c.deref-in-Conditional.ensures at (c.in_err-condition-in-Conditional.ensures.value d)))) }

pub eval-returns-then-branch-3 : goal.eval-returns-then-branch-3
eval-returns-then-branch-3 t c = record { value = λ d. rw (view_Conditional c.args.e.now c.in-Conditional.test c.in-Conditional.a c.in-Conditional.b c.in-Conditional.is) (condition_true d _ _ _ _ _ _ _ _ _ _ (rw c.deref-in-Conditional.ensures at (c.in_ok-condition-in-Conditional.ensures.value d)) c.if-branch-3.true (rw c.deref-then-branch-3.ensures at (c.eval-then-branch-3.ensures.value d))) }

pub eval-returns-in_err-v-in-Call : goal.eval-returns-in_err-v-in-Call
eval-returns-in_err-v-in-Call t c = record { value = λ d. stopped d _ c.from_residual-in_err-v-in-Call.result _ _ _ _ c.from_residual-in_err-v-in-Call.ensures.1 (stops_as d _ _ _ _ _ (call_is (setting_of c.args.context.now d) (scope_of c.args.scope.now) (entries_of c.args.locals.now) c.args.e.now c.in-Call.f c.in-Call.es (world_of c.args.world.now) c.in-Call.is) (stops_then d _ _ _ _ _ (rw c.deref-in-Call.ensures at (c.in_err-v-in-Call.ensures.value d)))) }

pub eval-returns-in_err-u-in-Index : goal.eval-returns-in_err-u-in-Index
eval-returns-in_err-u-in-Index t c = record { value = λ d. stopped d _ c.from_residual-in_err-u-in-Index.result _ _ _ _ c.from_residual-in_err-u-in-Index.ensures.1 (stops_as d _ _ _ _ _ (index_is (setting_of c.args.context.now d) (scope_of c.args.scope.now) (entries_of c.args.locals.now) c.args.e.now c.in-Index.a c.in-Index.i (world_of c.args.world.now) c.in-Index.is) (stops_then d _ _ _ _ _ (rw (c.deref-in-Index.ensures, c.deref-in-Index-2.ensures) at (c.in_err-u-in-Index.ensures.value d)))) }

pub eval-returns-in_err-v-in-Length : goal.eval-returns-in_err-v-in-Length
eval-returns-in_err-v-in-Length t c = record { value = λ d. rw (view_Length c.args.e.now c.in-Length.a c.in-Length.is) (stopped d _ c.from_residual-in_err-v-in-Length.result _ _ _ _ c.from_residual-in_err-v-in-Length.ensures.1 (stops_then d _ _ _ _ _ (rw c.deref-in-Length.ensures at (c.in_err-v-in-Length.ensures.value d)))) }

pub eval-returns-in_err-v-in-Pop : goal.eval-returns-in_err-v-in-Pop
eval-returns-in_err-v-in-Pop t c = record { value = λ d. rw (view_Pop c.args.e.now c.in-Pop.a c.in-Pop.is) (stopped d _ c.from_residual-in_err-v-in-Pop.result _ _ _ _ c.from_residual-in_err-v-in-Pop.ensures.1 (stops_then d _ _ _ _ _ (rw c.deref-in-Pop.ensures at (c.in_err-v-in-Pop.ensures.value d)))) }

pub eval-returns-in_err-u-in-CharCodeAt : goal.eval-returns-in_err-u-in-CharCodeAt
eval-returns-in_err-u-in-CharCodeAt t c = record { value = λ d. stopped d _ c.from_residual-in_err-u-in-CharCodeAt.result _ _ _ _ c.from_residual-in_err-u-in-CharCodeAt.ensures.1 (stops_as d _ _ _ _ _ (char_code_is (setting_of c.args.context.now d) (scope_of c.args.scope.now) (entries_of c.args.locals.now) c.args.e.now c.in-CharCodeAt.a c.in-CharCodeAt.i (world_of c.args.world.now) c.in-CharCodeAt.is) (stops_then d _ _ _ _ _ (rw (c.deref-in-CharCodeAt.ensures, c.deref-in-CharCodeAt-2.ensures) at (c.in_err-u-in-CharCodeAt.ensures.value d)))) }

pub eval-returns-in_err-u-in-Substring : goal.eval-returns-in_err-u-in-Substring
eval-returns-in_err-u-in-Substring t c = record { value = λ d. stopped d _ c.from_residual-in_err-u-in-Substring.result _ _ _ _ c.from_residual-in_err-u-in-Substring.ensures.1 (stops_as d _ _ _ _ _ (substring_is (setting_of c.args.context.now d) (scope_of c.args.scope.now) (entries_of c.args.locals.now) c.args.e.now c.in-Substring.a c.in-Substring.i c.in-Substring.j (world_of c.args.world.now) c.in-Substring.is) (stops_then d _ _ _ _ _ (rw (c.deref-in-Substring.ensures, c.deref-in-Substring-2.ensures) at (c.in_err-u-in-Substring.ensures.value d)))) }

pub eval-returns-in_err-x-in-Substring : goal.eval-returns-in_err-x-in-Substring
eval-returns-in_err-x-in-Substring t c = record { value = λ d. gives_as d _ _ _ _ _ _ (substring_is (setting_of c.args.context.now d) (scope_of c.args.scope.now) (entries_of c.args.locals.now) c.args.e.now c.in-Substring.a c.in-Substring.i c.in-Substring.j (world_of c.args.world.now) c.in-Substring.is) (value_goes d _ _ _ _ _ _ _ _ (rw (c.deref-in-Substring.ensures, c.deref-in-Substring-2.ensures) at (c.in_ok-u-in-Substring.ensures.value d)) (stopped d _ c.from_residual-in_err-x-in-Substring.result _ _ _ _ c.from_residual-in_err-x-in-Substring.ensures.1 (stops_then d _ _ _ _ _ (rw c.deref-in-Substring-3.ensures at (c.in_err-x-in-Substring.ensures.value d))))) }

pub eval-returns-in_err-vs-in-Array : goal.eval-returns-in_err-vs-in-Array
eval-returns-in_err-vs-in-Array t c = record { value = λ d. rw (view_Array c.args.e.now c.in-Array.es c.in-Array.is) (stopped d _ c.from_residual-in_err-vs-in-Array.result _ _ _ _ c.from_residual-in_err-vs-in-Array.ensures.1 (stops_then d _ _ _ _ _ (c.in_err-vs-in-Array.ensures.value d))) }

pub eval-returns-in_err-v-in-Decimal : goal.eval-returns-in_err-v-in-Decimal
eval-returns-in_err-v-in-Decimal t c = record { value = λ d. rw (view_Decimal c.args.e.now c.in-Decimal.a c.in-Decimal.is) (stopped d _ c.from_residual-in_err-v-in-Decimal.result _ _ _ _ c.from_residual-in_err-v-in-Decimal.ensures.1 (stops_then d _ _ _ _ _ (rw c.deref-in-Decimal.ensures at (c.in_err-v-in-Decimal.ensures.value d)))) }

pub eval-returns-in_err-v-in-FromCharCode : goal.eval-returns-in_err-v-in-FromCharCode
eval-returns-in_err-v-in-FromCharCode t c = record { value = λ d. rw (view_FromCharCode c.args.e.now c.in-FromCharCode.a c.in-FromCharCode.is) (stopped d _ c.from_residual-in_err-v-in-FromCharCode.result _ _ _ _ c.from_residual-in_err-v-in-FromCharCode.ensures.1 (stops_then d _ _ _ _ _ (rw c.deref-in-FromCharCode.ensures at (c.in_err-v-in-FromCharCode.ensures.value d)))) }

pub eval-returns-in_ok-v-in-Name : goal.eval-returns-in_ok-v-in-Name
eval-returns-in_ok-v-in-Name t c = record { value = λ d. rw (view_Name c.args.e.now c.in-Name.x c.in-Name.is) (rw (← c.in_ok-v-in-Name.ensures.value d) (c.given.ensures.value d _)) }

pub eval-returns-in_ok-v-in-Unary : goal.eval-returns-in_ok-v-in-Unary
eval-returns-in_ok-v-in-Unary t c = record { value = λ d. rw (view_Unary c.args.e.now c.in-Unary.op c.in-Unary.a c.in-Unary.is) (value_goes d _ _ _ _ _ _ _ _ (rw c.deref.ensures at (c.in_ok-v-in-Unary.ensures.value d)) (rw (← c.unary_value.ensures.value) (c.given-in-Unary.ensures.value d _))) }

pub eval-returns-in_ok-u-in-Binary : goal.eval-returns-in_ok-u-in-Binary
eval-returns-in_ok-u-in-Binary t c = record { value = λ d. gives_as d _ _ _ _ _ _ (binary_is (setting_of c.args.context.now d) (scope_of c.args.scope.now) (entries_of c.args.locals.now) c.args.e.now c.in-Binary.op c.in-Binary.a c.in-Binary.b (world_of c.args.world.now) c.in-Binary.is) (value_goes d _ _ _ _ _ _ _ _ (rw (c.deref-in-Binary.ensures, c.deref-in-Binary-2.ensures) at (c.in_ok-u-in-Binary.ensures.value d)) (c.binary.ensures.value d)) }

pub eval-returns-else-branch : goal.eval-returns-else-branch
eval-returns-else-branch t c = record { value = λ d. rw (view_And c.args.e.now c.in-And.a c.in-And.b c.in-And.is) (condition_is_false _ _ _ _ _ _ (rw c.deref-in-And.ensures at (c.in_ok-condition-in-And.ensures.value d)) c.if-branch.false) }

pub eval-returns-else-branch-2 : goal.eval-returns-else-branch-2
eval-returns-else-branch-2 t c = record { value = λ d. rw (view_Or c.args.e.now c.in-Or.a c.in-Or.b c.in-Or.is) (condition_false d _ _ _ _ _ _ _ _ _ _ (rw c.deref-in-Or.ensures at (c.in_ok-condition-in-Or.ensures.value d)) c.if-branch-2.false (rw c.deref-in-Or-2.ensures at (c.eval-in-Or.ensures.value d))) }

pub eval-returns-else-branch-3 : goal.eval-returns-else-branch-3
eval-returns-else-branch-3 t c = record { value = λ d. rw (view_Conditional c.args.e.now c.in-Conditional.test c.in-Conditional.a c.in-Conditional.b c.in-Conditional.is) (condition_false d _ _ _ _ _ _ _ _ _ _ (rw c.deref-in-Conditional.ensures at (c.in_ok-condition-in-Conditional.ensures.value d)) c.if-branch-3.false (rw c.deref-in-Conditional-2.ensures at (c.eval-in-Conditional.ensures.value d))) }

pub eval-returns-in_ok-v-in-Call : goal.eval-returns-in_ok-v-in-Call
eval-returns-in_ok-v-in-Call t c = record { value = λ d. gives_as d _ _ _ _ _ _ (call_is (setting_of c.args.context.now d) (scope_of c.args.scope.now) (entries_of c.args.locals.now) c.args.e.now c.in-Call.f c.in-Call.es (world_of c.args.world.now) c.in-Call.is) (value_goes d _ _ _ _ _ _ _ _ (rw c.deref-in-Call.ensures at (c.in_ok-v-in-Call.ensures.value d)) (c.given-in-Call.ensures.value d _)) }

pub eval-returns-in_ok-u-in-Index : goal.eval-returns-in_ok-u-in-Index
eval-returns-in_ok-u-in-Index t c = record { value = λ d. gives_as d _ _ _ _ _ _ (index_is (setting_of c.args.context.now d) (scope_of c.args.scope.now) (entries_of c.args.locals.now) c.args.e.now c.in-Index.a c.in-Index.i (world_of c.args.world.now) c.in-Index.is) (value_goes d _ _ _ _ _ _ _ _ (rw (c.deref-in-Index.ensures, c.deref-in-Index-2.ensures) at (c.in_ok-u-in-Index.ensures.value d)) (c.element.ensures.value d)) }

pub eval-returns-in_ok-v-in-Length : goal.eval-returns-in_ok-v-in-Length
eval-returns-in_ok-v-in-Length t c = record { value = λ d. rw (view_Length c.args.e.now c.in-Length.a c.in-Length.is) (value_goes d _ _ _ _ _ _ _ _ (rw c.deref-in-Length.ensures at (c.in_ok-v-in-Length.ensures.value d)) (c.length.ensures.value d)) }

pub eval-returns-in_ok-v-in-Pop : goal.eval-returns-in_ok-v-in-Pop
eval-returns-in_ok-v-in-Pop t c = record { value = λ d. rw (view_Pop c.args.e.now c.in-Pop.a c.in-Pop.is) (value_goes d _ _ _ _ _ _ _ _ (rw c.deref-in-Pop.ensures at (c.in_ok-v-in-Pop.ensures.value d)) (c.pop.ensures.value d)) }

pub eval-returns-in_ok-u-in-CharCodeAt : goal.eval-returns-in_ok-u-in-CharCodeAt
eval-returns-in_ok-u-in-CharCodeAt t c = record { value = λ d. gives_as d _ _ _ _ _ _ (char_code_is (setting_of c.args.context.now d) (scope_of c.args.scope.now) (entries_of c.args.locals.now) c.args.e.now c.in-CharCodeAt.a c.in-CharCodeAt.i (world_of c.args.world.now) c.in-CharCodeAt.is) (value_goes d _ _ _ _ _ _ _ _ (rw (c.deref-in-CharCodeAt.ensures, c.deref-in-CharCodeAt-2.ensures) at (c.in_ok-u-in-CharCodeAt.ensures.value d)) (rw (← c.char_code.ensures.value) (c.given-in-CharCodeAt.ensures.value d _))) }

pub eval-returns-in_ok-part-in-Substring : goal.eval-returns-in_ok-part-in-Substring
eval-returns-in_ok-part-in-Substring t c = record { value = λ d. gives_as d _ _ _ _ _ _ (substring_is (setting_of c.args.context.now d) (scope_of c.args.scope.now) (entries_of c.args.locals.now) c.args.e.now c.in-Substring.a c.in-Substring.i c.in-Substring.j (world_of c.args.world.now) c.in-Substring.is) (value_goes d _ _ _ _ _ _ _ _ (rw (c.deref-in-Substring.ensures, c.deref-in-Substring-2.ensures) at (c.in_ok-u-in-Substring.ensures.value d)) (value_goes d _ _ _ _ _ _ _ _ (rw c.deref-in-Substring-3.ensures at (c.in_ok-x-in-Substring.ensures.value d)) (rw (← c.in_ok-part-in-Substring.ensures.value) (c.given-in-Substring.ensures.value d _)))) }

pub eval-returns-in_ok-vs-in-Array : goal.eval-returns-in_ok-vs-in-Array
eval-returns-in_ok-vs-in-Array t c = record { value = λ d. rw (view_Array c.args.e.now c.in-Array.es c.in-Array.is) (value_goes d _ _ _ _ _ _ _ _ (c.in_ok-vs-in-Array.ensures.value d) (c.allocate.ensures.value d)) }

pub eval-returns-in_ok-text-in-Decimal : goal.eval-returns-in_ok-text-in-Decimal
eval-returns-in_ok-text-in-Decimal t c = record { value = λ d. rw (view_Decimal c.args.e.now c.in-Decimal.a c.in-Decimal.is) (value_goes d _ _ _ _ _ _ _ _ (rw c.deref-in-Decimal.ensures at (c.in_ok-v-in-Decimal.ensures.value d)) (rw (← c.in_ok-text-in-Decimal.ensures.value) (c.given-in-Decimal.ensures.value d _))) }

pub eval-returns-in_ok-text-in-FromCharCode : goal.eval-returns-in_ok-text-in-FromCharCode
eval-returns-in_ok-text-in-FromCharCode t c = record { value = λ d. rw (view_FromCharCode c.args.e.now c.in-FromCharCode.a c.in-FromCharCode.is) (value_goes d _ _ _ _ _ _ _ _ (rw c.deref-in-FromCharCode.ensures at (c.in_ok-v-in-FromCharCode.ensures.value d)) (rw (← c.in_ok-text-in-FromCharCode.ensures.value) (c.given-in-FromCharCode.ensures.value d _))) }

pub eval_all-eval-requires : goal.eval_all-eval-requires
eval_all-eval-requires t c = let k = ap exprs_weight (exprs_at c.args.es.now c.deref-e-items.result.now c.deref-e-items.ensures.value) in let w = expr_in c.deref-e-items.result.now c.e-item.result c.loop-e.e-index c.loop-e-test.true c.e-item.is in (omega (arith, k, w), tt)

pub eval_all-returns-in_err-v : goal.eval_all-returns-in_err-v
eval_all-returns-in_err-v t c = record { value = λ d. stopped d _ c.from_residual.result _ _ _ _ c.from_residual.ensures.1 (stops_as d _ _ _ _ _ (exprs_next (setting_of c.args.context.now d) (scope_of c.args.scope.now) (entries_of c.args.locals.now) c.args.es.now c.deref-e-items.result.now c.loop-e.e-index c.e-item.result (values_of c.loop-e.values.items) (world_of c.args.world.now) (world_of c.loop-e.world) c.deref-e-items.ensures.value (c.loop-e.invariant d) c.loop-e-test.true c.e-item.is) (stops_then d _ _ _ _ _ (stops_then d _ _ _ _ _ (c.in_err-v.ensures.value d)))) }

pub eval_all-loop-e-preserved : goal.eval_all-loop-e-preserved
eval_all-loop-e-preserved t c = λ d. exprs_pushed (setting_of c.args.context.now d) (scope_of c.args.scope.now) (entries_of c.args.locals.now) c.deref-e-items.result.now c.loop-e.e-index c.e-item.result (values_of c.loop-e.values.items) _ (world_of c.args.world.now) (world_of c.loop-e.world) (world_of c.eval.new.world) (value_of c.in_ok-v.v) (c.loop-e.invariant d) c.loop-e-test.true c.e-item.is (c.in_ok-v.ensures.value d) (ap values_of c.in_ok-push.ensures.items ∙ map-append value_of c.loop-e.values.items (c.in_ok-v.v ∷ []))

pub eval_all-returns : goal.eval_all-returns
eval_all-returns t c = record { value = λ d. exprs_done (setting_of c.args.context.now d) (scope_of c.args.scope.now) (entries_of c.args.locals.now) c.args.es.now c.deref-e-items.result.now c.loop-e.e-index (values_of c.loop-e.values.items) (world_of c.args.world.now) (world_of c.loop-e.world) c.deref-e-items.ensures.value (c.loop-e.invariant d) c.loop-e-test.false }

pub exec-returns-in_err-v-in-Declare : goal.exec-returns-in_err-v-in-Declare
exec-returns-in_err-v-in-Declare t c = record { value = λ d. rw (view_Declare c.args.s.now c.in-Declare.x c.in-Declare.e c.in-Declare.is) (stopped d _ c.from_residual.result _ _ _ _ c.from_residual.ensures.1 (stops_value d _ _ _ _ _ (rw c.deref.ensures.value at (c.in_err-v-in-Declare.ensures.value d)))) }

pub exec-returns-in_err-v-in-Assign : goal.exec-returns-in_err-v-in-Assign
exec-returns-in_err-v-in-Assign t c = record { value = λ d. rw (view_Assign c.args.s.now c.in-Assign.x c.in-Assign.e c.in-Assign.is) (stopped d _ c.from_residual-in_err-v-in-Assign.result _ _ _ _ c.from_residual-in_err-v-in-Assign.ensures.1 (stops_value d _ _ _ _ _ (rw c.deref-in-Assign.ensures.value at (c.in_err-v-in-Assign.ensures.value d)))) }

pub exec-returns-in_err-u-in-Store : goal.exec-returns-in_err-u-in-Store
exec-returns-in_err-u-in-Store t c = record { value = λ d. rw (view_Store c.args.s.now c.in-Store.a c.in-Store.i c.in-Store.e c.in-Store.is) (stopped d _ c.from_residual-in_err-u-in-Store.result _ _ _ _ c.from_residual-in_err-u-in-Store.ensures.1 (frame_stops d _ _ _ _ (λ ls w. part.eval (setting_of c.args.context.now d) (scope_of c.args.scope.now) ls (expr_view c.in-Store.i) w) _ (rw c.deref-in-Store.ensures.value at (c.in_err-u-in-Store.ensures.value d)))) }

pub exec-returns-in_err-v-in-Store : goal.exec-returns-in_err-v-in-Store
exec-returns-in_err-v-in-Store t c = record { value = λ d. rw (view_Store c.args.s.now c.in-Store.a c.in-Store.i c.in-Store.e c.in-Store.is) (frame_goes d _ _ _ _ _ _ (λ ls w. part.eval (setting_of c.args.context.now d) (scope_of c.args.scope.now) ls (expr_view c.in-Store.i) w) _ _ _ (rw c.deref-in-Store.ensures.value at (c.in_ok-u-in-Store.ensures.value d)) (stopped d _ c.from_residual-in_err-v-in-Store.result _ _ _ _ c.from_residual-in_err-v-in-Store.ensures.1 (stops_value d _ _ _ _ _ (rw c.deref-in-Store-2.ensures.value at (c.in_err-v-in-Store.ensures.value d))))) }

pub exec-returns-in_err-u-in-Push : goal.exec-returns-in_err-u-in-Push
exec-returns-in_err-u-in-Push t c = record { value = λ d. rw (view_Push c.args.s.now c.in-Push.a c.in-Push.e c.in-Push.is) (stopped d _ c.from_residual-in_err-u-in-Push.result _ _ _ _ c.from_residual-in_err-u-in-Push.ensures.1 (frame_stops d _ _ _ _ (λ ls w. part.eval (setting_of c.args.context.now d) (scope_of c.args.scope.now) ls (expr_view c.in-Push.e) w) _ (rw c.deref-in-Push.ensures.value at (c.in_err-u-in-Push.ensures.value d)))) }

pub exec-returns-in_err-u-in-Delete : goal.exec-returns-in_err-u-in-Delete
exec-returns-in_err-u-in-Delete t c = record { value = λ d. rw (view_Delete c.args.s.now c.in-Delete.a c.in-Delete.k c.in-Delete.is) (stopped d _ c.from_residual-in_err-u-in-Delete.result _ _ _ _ c.from_residual-in_err-u-in-Delete.ensures.1 (frame_stops d _ _ _ _ (λ ls w. part.eval (setting_of c.args.context.now d) (scope_of c.args.scope.now) ls (expr_view c.in-Delete.k) w) _ (rw c.deref-in-Delete.ensures.value at (c.in_err-u-in-Delete.ensures.value d)))) }

pub exec-returns-in_err-v-in-Switch : goal.exec-returns-in_err-v-in-Switch
exec-returns-in_err-v-in-Switch t c = record { value = λ d. rw (view_Switch c.args.s.now c.in-Switch.label c.in-Switch.e c.in-Switch.list c.in-Switch.is) (stopped d _ c.from_residual-in_err-v-in-Switch.result _ _ _ _ c.from_residual-in_err-v-in-Switch.ensures.1 (stops_value d _ _ _ _ _ (rw c.deref-in-Switch.ensures.value at (c.in_err-v-in-Switch.ensures.value d)))) }

pub exec-returns-in_err-flow-in-Switch : goal.exec-returns-in_err-flow-in-Switch
exec-returns-in_err-flow-in-Switch t c = record { value = λ d. rw (view_Switch c.args.s.now c.in-Switch.label c.in-Switch.e c.in-Switch.list c.in-Switch.is) (value_in_goes d _ _ _ _ _ _ _ _ _ (rw c.deref-in-Switch.ensures.value at (c.in_ok-v-in-Switch.ensures.value d)) (stopped d _ c.from_residual-in_err-flow-in-Switch.result _ _ _ _ c.from_residual-in_err-flow-in-Switch.ensures.1 (stops_then d _ _ _ _ _ (c.in_err-flow-in-Switch.ensures.value d)))) }

pub exec-returns-in_err-v-in-Some : goal.exec-returns-in_err-v-in-Some
exec-returns-in_err-v-in-Some t c = record { value = λ d. rw (view_Return c.args.s.now c.in-Return.e c.in-Return.is) (rw c.in-Some.is (stopped d _ c.from_residual-in_err-v-in-Some.result _ _ _ _ c.from_residual-in_err-v-in-Some.ensures.1 (stops_value d _ _ _ _ _ (rw c.deref-in-Some.ensures.value at (c.in_err-v-in-Some.ensures.value d))))) }

pub exec-returns-in_err-v-in-Throw : goal.exec-returns-in_err-v-in-Throw
exec-returns-in_err-v-in-Throw t c = record { value = λ d. rw (view_Throw c.args.s.now c.in-Throw.e c.in-Throw.is) (stopped d _ c.from_residual-in_err-v-in-Throw.result _ _ _ _ c.from_residual-in_err-v-in-Throw.ensures.1 (stops_value d _ _ _ _ _ (rw c.deref-in-Throw.ensures.value at (c.in_err-v-in-Throw.ensures.value d)))) }

pub exec-returns-in_ok-set_local-in-Declare : goal.exec-returns-in_ok-set_local-in-Declare
exec-returns-in_ok-set_local-in-Declare t c = record { value = λ d. rw (view_Declare c.args.s.now c.in-Declare.x c.in-Declare.e c.in-Declare.is) (rw (rw c.deref.ensures.value at (c.in_ok-v-in-Declare.ensures.value d)) (rw c.in_ok-set_local-in-Declare.ensures.value refl)) }

pub exec-returns-in_ok-v-in-Assign : goal.exec-returns-in_ok-v-in-Assign
exec-returns-in_ok-v-in-Assign t c = record { value = λ d. rw (view_Assign c.args.s.now c.in-Assign.x c.in-Assign.e c.in-Assign.is) (value_in_goes d _ _ _ _ _ _ _ _ _ (rw c.deref-in-Assign.ensures.value at (c.in_ok-v-in-Assign.ensures.value d)) (c.set_name.ensures.value d)) }

pub exec-returns-in_ok-v-in-Store : goal.exec-returns-in_ok-v-in-Store
exec-returns-in_ok-v-in-Store t c = record { value = λ d. rw (view_Store c.args.s.now c.in-Store.a c.in-Store.i c.in-Store.e c.in-Store.is) (frame_goes d _ _ _ _ _ _ (λ ls w. part.eval (setting_of c.args.context.now d) (scope_of c.args.scope.now) ls (expr_view c.in-Store.i) w) _ _ _ (rw c.deref-in-Store.ensures.value at (c.in_ok-u-in-Store.ensures.value d)) (value_in_goes d _ _ _ _ _ _ _ _ _ (rw c.deref-in-Store-2.ensures.value at (c.in_ok-v-in-Store.ensures.value d)) (rw c.deref-in-Store-3.ensures.value at (c.store.ensures.value d)))) }

pub exec-returns-in_ok-u-in-Push : goal.exec-returns-in_ok-u-in-Push
exec-returns-in_ok-u-in-Push t c = record { value = λ d. rw (view_Push c.args.s.now c.in-Push.a c.in-Push.e c.in-Push.is) (frame_goes d _ _ _ _ _ _ (λ ls w. part.eval (setting_of c.args.context.now d) (scope_of c.args.scope.now) ls (expr_view c.in-Push.e) w) _ _ _ (rw c.deref-in-Push.ensures.value at (c.in_ok-u-in-Push.ensures.value d)) (rw c.deref-in-Push-2.ensures.value at (c.push.ensures.value d))) }

pub exec-returns-in_ok-u-in-Delete : goal.exec-returns-in_ok-u-in-Delete
exec-returns-in_ok-u-in-Delete t c = record { value = λ d. rw (view_Delete c.args.s.now c.in-Delete.a c.in-Delete.k c.in-Delete.is) (frame_goes d _ _ _ _ _ _ (λ ls w. part.eval (setting_of c.args.context.now d) (scope_of c.args.scope.now) ls (expr_view c.in-Delete.k) w) _ _ _ (rw c.deref-in-Delete.ensures.value at (c.in_ok-u-in-Delete.ensures.value d)) (rw c.deref-in-Delete-2.ensures.value at (c.remove.ensures.value d))) }

pub exec-returns-in-If : goal.exec-returns-in-If
exec-returns-in-If t c = record { value = λ d. rw (view_If c.args.s.now c.in-If.test c.in-If.body c.in-If.other c.in-If.is) (c.branch-context.ensures.value d) }

pub exec-returns-in-While : goal.exec-returns-in-While
exec-returns-in-While t c = record { value = λ d. rw (view_While c.args.s.now c.in-While.label c.in-While.test c.in-While.body c.in-While.is) (c.turns.ensures.value d) }

pub exec-returns-in-Forever : goal.exec-returns-in-Forever
exec-returns-in-Forever t c = record { value = λ d. rw (view_Forever c.args.s.now c.in-Forever.label c.in-Forever.body c.in-Forever.is) (c.turns-in-Forever.ensures.value d) }

pub exec-returns-in_ok-flow-in-Switch : goal.exec-returns-in_ok-flow-in-Switch
exec-returns-in_ok-flow-in-Switch t c = record { value = λ d. rw (view_Switch c.args.s.now c.in-Switch.label c.in-Switch.e c.in-Switch.list c.in-Switch.is) (rw (rw c.deref-in-Switch.ensures.value at (c.in_ok-v-in-Switch.ensures.value d)) (rw (c.in_ok-flow-in-Switch.ensures.value d) (c.after_switch.ensures.value _))) }

pub exec-returns-in_ok-v-in-Some : goal.exec-returns-in_ok-v-in-Some
exec-returns-in_ok-v-in-Some t c = record { value = λ d. rw (view_Return c.args.s.now c.in-Return.e c.in-Return.is) (rw c.in-Some.is (rw (rw c.deref-in-Some.ensures.value at (c.in_ok-v-in-Some.ensures.value d)) refl)) }

pub exec-returns-in_ok-v-in-Throw : goal.exec-returns-in_ok-v-in-Throw
exec-returns-in_ok-v-in-Throw t c = record { value = λ d. rw (view_Throw c.args.s.now c.in-Throw.e c.in-Throw.is) (rw (rw c.deref-in-Throw.ensures.value at (c.in_ok-v-in-Throw.ensures.value d)) refl) }

pub exec_all-exec-requires : goal.exec_all-exec-requires
exec_all-exec-requires t c = let k = ap stmts_weight (stmts_at c.args.ss.now c.deref-s-items.result.now c.deref-s-items.ensures.value) in let w = stmt_in c.deref-s-items.result.now c.s-item.result c.loop-s.s-index c.loop-s-test.true c.s-item.is in (omega (arith, k, w), tt)

pub exec_all-returns-in_err-flow : goal.exec_all-returns-in_err-flow
exec_all-returns-in_err-flow t c = record { value = λ d. stopped d _ c.from_residual.result _ _ _ _ c.from_residual.ensures.1 (stops_as d _ _ _ _ _ (stmts_next (setting_of c.args.context.now d) (scope_of c.args.scope.now) c.args.ss.now c.deref-s-items.result.now c.loop-s.s-index c.s-item.result (frame_of c.args.locals.now.items c.args.world.now) (frame_of c.loop-s.locals.items c.loop-s.world) c.deref-s-items.ensures.value (c.loop-s.invariant d) c.loop-s-test.true c.s-item.is) (stops_then d _ _ _ _ _ (c.in_err-flow.ensures.value d))) }

pub exec_all-returns-then-leaves : goal.exec_all-returns-then-leaves
exec_all-returns-then-leaves t c = record { value = λ d. stmts_left (setting_of c.args.context.now d) (scope_of c.args.scope.now) c.args.ss.now c.deref-s-items.result.now c.loop-s.s-index c.s-item.result (frame_of c.args.locals.now.items c.args.world.now) (frame_of c.loop-s.locals.items c.loop-s.world) (frame_of c.exec.new.locals.items c.exec.new.world) (flow_of c.in_ok-flow.flow) c.deref-s-items.ensures.value (c.loop-s.invariant d) c.loop-s-test.true c.s-item.is (c.in_ok-flow.ensures.value d) (sym c.leaves.ensures.value ∙ c.if-leaves.true) }

pub exec_all-loop-s-preserved : goal.exec_all-loop-s-preserved
exec_all-loop-s-preserved t c = λ d. stmts_go_on (setting_of c.args.context.now d) (scope_of c.args.scope.now) c.deref-s-items.result.now c.loop-s.s-index c.s-item.result (frame_of c.args.locals.now.items c.args.world.now) (frame_of c.loop-s.locals.items c.loop-s.world) (frame_of c.exec.new.locals.items c.exec.new.world) (flow_of c.in_ok-flow.flow) (c.loop-s.invariant d) c.loop-s-test.true c.s-item.is (c.in_ok-flow.ensures.value d) (sym c.leaves.ensures.value ∙ c.if-leaves.false)

pub exec_all-returns : goal.exec_all-returns
exec_all-returns t c = record { value = λ d. stmts_done (setting_of c.args.context.now d) (scope_of c.args.scope.now) c.args.ss.now c.deref-s-items.result.now c.loop-s.s-index (frame_of c.args.locals.now.items c.args.world.now) (frame_of c.loop-s.locals.items c.loop-s.world) c.deref-s-items.ensures.value (c.loop-s.invariant d) c.loop-s-test.false }

pub test-returns-in-Some : goal.test-returns-in-Some
test-returns-in-Some t c = record { value = λ d. rw c.in-Some.is (gives_frame d _ _ _ _ _ (c.condition.ensures.value d)) }

pub turns-returns-in_err-test : goal.turns-returns-in_err-test
turns-returns-in_err-test t c = record { value = λ d. let q : (c.args.world.now.left - c.loop-turn.turn) ≡ suc (c.args.world.now.left - (c.loop-turn.turn + 1)) = omega arith in stopped d _ c.from_residual.result _ _ _ _ c.from_residual.ensures.1 (stops_as d _ _ _ _ _ (turns_more (c.args.world.now.left - c.loop-turn.turn) (c.args.world.now.left - (c.loop-turn.turn + 1)) c.args.head.now.label.now (test_in c.args.context.now c.args.scope.now c.args.head.now d) (part.exec_all (setting_of c.args.context.now d) (scope_of c.args.scope.now) (stmts_view c.args.head.now.body.now)) _ (frame_of c.loop-turn.locals.items c.loop-turn.world) (c.loop-turn.invariant d) q) (stops_then d _ _ _ _ _ (rw c.deref.ensures.value at (c.in_err-test.ensures.value d)))) }

pub turns-returns-then-not-branch : goal.turns-returns-then-not-branch
turns-returns-then-not-branch t c = record { value = λ d. let q : (c.args.world.now.left - c.loop-turn.turn) ≡ suc (c.args.world.now.left - (c.loop-turn.turn + 1)) = omega arith in turns_more (c.args.world.now.left - c.loop-turn.turn) (c.args.world.now.left - (c.loop-turn.turn + 1)) c.args.head.now.label.now (test_in c.args.context.now c.args.scope.now c.args.head.now d) (part.exec_all (setting_of c.args.context.now d) (scope_of c.args.scope.now) (stmts_view c.args.head.now.body.now)) _ (frame_of c.loop-turn.locals.items c.loop-turn.world) (c.loop-turn.invariant d) q ∙ turn_ends (c.args.world.now.left - (c.loop-turn.turn + 1)) c.args.head.now.label.now (test_in c.args.context.now c.args.scope.now c.args.head.now d) (part.exec_all (setting_of c.args.context.now d) (scope_of c.args.scope.now) (stmts_view c.args.head.now.body.now)) (frame_of c.loop-turn.locals.items c.loop-turn.world) (frame (entries_of c.loop-turn.locals.items) (world_of c.test.new.world)) c.in_ok-test.field-0 (rw c.deref.ensures.value at (c.in_ok-test.ensures.value d)) c.if-not-branch.true }

pub turns-returns-in_err-tick : goal.turns-returns-in_err-tick
turns-returns-in_err-tick t c = record { value = λ d. let q : (c.args.world.now.left - c.loop-turn.turn) ≡ suc (c.args.world.now.left - (c.loop-turn.turn + 1)) = omega arith in stopped d _ c.from_residual-in_err-tick.result _ _ _ _ c.from_residual-in_err-tick.ensures.1 (stops_as d _ _ _ _ _ (turns_more (c.args.world.now.left - c.loop-turn.turn) (c.args.world.now.left - (c.loop-turn.turn + 1)) c.args.head.now.label.now (test_in c.args.context.now c.args.scope.now c.args.head.now d) (part.exec_all (setting_of c.args.context.now d) (scope_of c.args.scope.now) (stmts_view c.args.head.now.body.now)) _ (frame_of c.loop-turn.locals.items c.loop-turn.world) (c.loop-turn.invariant d) q ∙ turn_begins (c.args.world.now.left - (c.loop-turn.turn + 1)) c.args.head.now.label.now (test_in c.args.context.now c.args.scope.now c.args.head.now d) (part.exec_all (setting_of c.args.context.now d) (scope_of c.args.scope.now) (stmts_view c.args.head.now.body.now)) (frame_of c.loop-turn.locals.items c.loop-turn.world) c.in_ok-test.field-0 (entries_of c.loop-turn.locals.items) (world_of c.test.new.world) (rw c.deref.ensures.value at (c.in_ok-test.ensures.value d)) c.if-not-branch.false) (stops_value d _ _ _ _ _ (c.in_err-tick.ensures.value d))) }

pub turns-returns-in_err-flow : goal.turns-returns-in_err-flow
turns-returns-in_err-flow t c = record { value = λ d. let q : (c.args.world.now.left - c.loop-turn.turn) ≡ suc (c.args.world.now.left - (c.loop-turn.turn + 1)) = omega arith in stopped d _ c.from_residual-in_err-flow.result _ _ _ _ c.from_residual-in_err-flow.ensures.1 (stops_as d _ _ _ _ _ (turns_more (c.args.world.now.left - c.loop-turn.turn) (c.args.world.now.left - (c.loop-turn.turn + 1)) c.args.head.now.label.now (test_in c.args.context.now c.args.scope.now c.args.head.now d) (part.exec_all (setting_of c.args.context.now d) (scope_of c.args.scope.now) (stmts_view c.args.head.now.body.now)) _ (frame_of c.loop-turn.locals.items c.loop-turn.world) (c.loop-turn.invariant d) q ∙ turn_runs (c.args.world.now.left - (c.loop-turn.turn + 1)) c.args.head.now.label.now (test_in c.args.context.now c.args.scope.now c.args.head.now d) (part.exec_all (setting_of c.args.context.now d) (scope_of c.args.scope.now) (stmts_view c.args.head.now.body.now)) (frame_of c.loop-turn.locals.items c.loop-turn.world) c.in_ok-test.field-0 (entries_of c.loop-turn.locals.items) (world_of c.test.new.world) (world_of c.tick.new.world) (rw c.deref.ensures.value at (c.in_ok-test.ensures.value d)) c.if-not-branch.false (c.in_ok-tick.ensures.value d)) (stops_then d _ _ _ _ _ (c.in_err-flow.ensures.value d))) }

pub turns-returns-in-Some : goal.turns-returns-in-Some
turns-returns-in-Some t c = record { value = λ d. let q : (c.args.world.now.left - c.loop-turn.turn) ≡ suc (c.args.world.now.left - (c.loop-turn.turn + 1)) = omega arith in turns_more (c.args.world.now.left - c.loop-turn.turn) (c.args.world.now.left - (c.loop-turn.turn + 1)) c.args.head.now.label.now (test_in c.args.context.now c.args.scope.now c.args.head.now d) (part.exec_all (setting_of c.args.context.now d) (scope_of c.args.scope.now) (stmts_view c.args.head.now.body.now)) _ (frame_of c.loop-turn.locals.items c.loop-turn.world) (c.loop-turn.invariant d) q ∙ (turn_leaves (c.args.world.now.left - (c.loop-turn.turn + 1)) c.args.head.now.label.now (test_in c.args.context.now c.args.scope.now c.args.head.now d) (part.exec_all (setting_of c.args.context.now d) (scope_of c.args.scope.now) (stmts_view c.args.head.now.body.now)) (frame_of c.loop-turn.locals.items c.loop-turn.world) (frame_of c.exec_all.new.locals.items c.exec_all.new.world) c.in_ok-test.field-0 (entries_of c.loop-turn.locals.items) (world_of c.test.new.world) (world_of c.tick.new.world) (flow_of c.in_ok-flow.flow) (rw c.deref.ensures.value at (c.in_ok-test.ensures.value d)) c.if-not-branch.false (c.in_ok-tick.ensures.value d) (c.in_ok-flow.ensures.value d) ∙ c.in-Some.ensures.value (part.turns (c.args.world.now.left - (c.loop-turn.turn + 1)) c.args.head.now.label.now (test_in c.args.context.now c.args.scope.now c.args.head.now d) (part.exec_all (setting_of c.args.context.now d) (scope_of c.args.scope.now) (stmts_view c.args.head.now.body.now))) (frame_of c.exec_all.new.locals.items c.exec_all.new.world)) }

pub turns-returns-in_err-test-2 : goal.turns-returns-in_err-test-2
turns-returns-in_err-test-2 t c = record { value = λ d. let q : (c.args.world.now.left - c.loop-turn.turn) ≡ 0 = omega arith in stopped d _ c.from_residual-in_err-test-2.result _ _ _ _ c.from_residual-in_err-test-2.ensures.1 (stops_as d _ _ _ _ _ (turns_no_more (c.args.world.now.left - c.loop-turn.turn) c.args.head.now.label.now (test_in c.args.context.now c.args.scope.now c.args.head.now d) (part.exec_all (setting_of c.args.context.now d) (scope_of c.args.scope.now) (stmts_view c.args.head.now.body.now)) _ (frame_of c.loop-turn.locals.items c.loop-turn.world) (c.loop-turn.invariant d) q) (stops_then d _ _ _ _ _ (rw c.deref-2.ensures.value at (c.in_err-test-2.ensures.value d)))) }

pub turns-returns-then-branch : goal.turns-returns-then-branch
turns-returns-then-branch t c = record { value = λ d. let q : (c.args.world.now.left - c.loop-turn.turn) ≡ 0 = omega arith in turns_no_more (c.args.world.now.left - c.loop-turn.turn) c.args.head.now.label.now (test_in c.args.context.now c.args.scope.now c.args.head.now d) (part.exec_all (setting_of c.args.context.now d) (scope_of c.args.scope.now) (stmts_view c.args.head.now.body.now)) _ (frame_of c.loop-turn.locals.items c.loop-turn.world) (c.loop-turn.invariant d) q ∙ last_goes (test_in c.args.context.now c.args.scope.now c.args.head.now d) (frame_of c.loop-turn.locals.items c.loop-turn.world) (frame (entries_of c.loop-turn.locals.items) (world_of c.test-2.new.world)) c.in_ok-test-2.field-0 (rw c.deref-2.ensures.value at (c.in_ok-test-2.ensures.value d)) c.if-branch.true }

pub turns-returns : goal.turns-returns
turns-returns t c = record { value = λ d. let q : (c.args.world.now.left - c.loop-turn.turn) ≡ 0 = omega arith in turns_no_more (c.args.world.now.left - c.loop-turn.turn) c.args.head.now.label.now (test_in c.args.context.now c.args.scope.now c.args.head.now d) (part.exec_all (setting_of c.args.context.now d) (scope_of c.args.scope.now) (stmts_view c.args.head.now.body.now)) _ (frame_of c.loop-turn.locals.items c.loop-turn.world) (c.loop-turn.invariant d) q ∙ last_ends (test_in c.args.context.now c.args.scope.now c.args.head.now d) (frame_of c.loop-turn.locals.items c.loop-turn.world) (frame (entries_of c.loop-turn.locals.items) (world_of c.test-2.new.world)) c.in_ok-test-2.field-0 (rw c.deref-2.ensures.value at (c.in_ok-test-2.ensures.value d)) c.if-branch.false }

pub two-returns-in_err-u : goal.two-returns-in_err-u
two-returns-in_err-u t c = record { value = λ d. stopped d _ c.from_residual.result _ _ _ _ c.from_residual.ensures.1 (stops_then d _ _ _ _ _ (c.in_err-u.ensures.value d)) }

pub two-returns-in_err-v : goal.two-returns-in_err-v
two-returns-in_err-v t c = record { value = λ d. value_goes d _ _ _ _ _ _ _ _ (c.in_ok-u.ensures.value d) (stopped d _ c.from_residual-in_err-v.result _ _ _ _ c.from_residual-in_err-v.ensures.1 (stops_then d _ _ _ _ _ (c.in_err-v.ensures.value d))) }

pub two-returns : goal.two-returns
two-returns t c = record { value = λ d. rw (c.in_ok-u.ensures.value d, c.in_ok-v.ensures.value d) }

pub dropped-call-requires : goal.dropped-call-requires
dropped-call-requires t c = let k = ap expr_weight c.in-Some.ensures.value in (omega (arith, k), tt)

pub dropped-returns-in-Some : goal.dropped-returns-in-Some
dropped-returns-in-Some t c = record { value = λ d. rw c.in-Some.ensures.value (c.call.ensures.value d) }

pub dropped-returns-in_err-v-in-None : goal.dropped-returns-in_err-v-in-None
dropped-returns-in_err-v-in-None t c = record { value = λ d. stopped d _ c.from_residual.result _ _ _ _ c.from_residual.ensures.1 (stops_as d _ _ _ _ _ (dropped_is (setting_of c.args.context.now d) (scope_of c.args.scope.now) (entries_of c.args.locals.now) (expr_view c.args.e.now) (world_of c.args.world.now) c.in-None.ensures.value) (stops_then d _ _ _ _ _ (c.in_err-v-in-None.ensures.value d))) }

pub dropped-returns-in_ok-v-in-None : goal.dropped-returns-in_ok-v-in-None
dropped-returns-in_ok-v-in-None t c = record { value = λ d. (dropped_is (setting_of c.args.context.now d) (scope_of c.args.scope.now) (entries_of c.args.locals.now) (expr_view c.args.e.now) (world_of c.args.world.now) c.in-None.ensures.value) ∙ goes (part.eval (setting_of c.args.context.now d) (scope_of c.args.scope.now) (entries_of c.args.locals.now) (expr_view c.args.e.now) (world_of c.args.world.now)) _ _ (λ v w. gives (Some v) w) (c.in_ok-v-in-None.ensures.value d) }

pub when-returns-then-runs : goal.when-returns-then-runs
when-returns-then-runs t c = record { value = λ d. rw c.if-runs.true (c.exec_all.ensures.value d) }

pub exec-returns-in_err-_value-in-Perform : goal.exec-returns-in_err-_value-in-Perform
exec-returns-in_err-_value-in-Perform t c = record { value = λ d. rw (view_Perform c.args.s.now c.in-Perform.e c.in-Perform.is) (stopped d _ c.from_residual-in_err-_value-in-Perform.result _ _ _ _ c.from_residual-in_err-_value-in-Perform.ensures.1 (stops_value d _ _ _ _ _ (rw c.deref-in-Perform.ensures.value at (c.in_err-_value-in-Perform.ensures.value d)))) }

pub exec-returns-in_ok-_value-in-Perform : goal.exec-returns-in_ok-_value-in-Perform
exec-returns-in_ok-_value-in-Perform t c = record { value = λ d. rw (view_Perform c.args.s.now c.in-Perform.e c.in-Perform.is) (rw (rw c.deref-in-Perform.ensures.value at (c.in_ok-_value-in-Perform.ensures.value d)) refl) }

pub exec-returns-in-Done : goal.exec-returns-in-Done
exec-returns-in-Done t c = record { value = λ d. rw (view_Try c.args.s.now c.in-Try.body c.in-Try.handler c.in-Try.is) (c.in-Done.ensures.value d _ _ _ (c.exec_all.ensures.value d)) }

pub exec-returns-in-Threw : goal.exec-returns-in-Threw
exec-returns-in-Threw t c = record { value = λ d. rw (view_Try c.args.s.now c.in-Try.body c.in-Try.handler c.in-Try.is) (gives_as d _ _ _ _ _ _ (c.in-Threw.ensures.value d _ _ _ (c.exec_all.ensures.value d)) (c.exec_all-in-Threw.ensures.value d)) }

pub cases-when-requires : goal.cases-when-requires
cases-when-requires t c = let k = ap cases_weight (cases_at c.args.list.now c.deref-c-items.result.now c.deref-c-items.ensures.value) in let w = case_in c.deref-c-items.result.now (last_of c.args.list.now) c.c-item.result c.loop-c.c-index c.loop-c-test.true c.c-item.is in (omega (arith, k, w), tt)

pub turns-loop-turn-preserved : goal.turns-loop-turn-preserved
turns-loop-turn-preserved t c = λ d. let q : (c.args.world.now.left - c.loop-turn.turn) ≡ suc (c.args.world.now.left - (c.loop-turn.turn + 1)) = omega arith in turns_more (c.args.world.now.left - c.loop-turn.turn) (c.args.world.now.left - (c.loop-turn.turn + 1)) c.args.head.now.label.now (test_in c.args.context.now c.args.scope.now c.args.head.now d) (part.exec_all (setting_of c.args.context.now d) (scope_of c.args.scope.now) (stmts_view c.args.head.now.body.now)) _ (frame_of c.loop-turn.locals.items c.loop-turn.world) (c.loop-turn.invariant d) q ∙ (turn_leaves (c.args.world.now.left - (c.loop-turn.turn + 1)) c.args.head.now.label.now (test_in c.args.context.now c.args.scope.now c.args.head.now d) (part.exec_all (setting_of c.args.context.now d) (scope_of c.args.scope.now) (stmts_view c.args.head.now.body.now)) (frame_of c.loop-turn.locals.items c.loop-turn.world) (frame_of c.exec_all.new.locals.items c.exec_all.new.world) c.in_ok-test.field-0 (entries_of c.loop-turn.locals.items) (world_of c.test.new.world) (world_of c.tick.new.world) (flow_of c.in_ok-flow.flow) (rw c.deref.ensures.value at (c.in_ok-test.ensures.value d)) c.if-not-branch.false (c.in_ok-tick.ensures.value d) (c.in_ok-flow.ensures.value d) ∙ c.in_default.ensures.value (part.turns (c.args.world.now.left - (c.loop-turn.turn + 1)) c.args.head.now.label.now (test_in c.args.context.now c.args.scope.now c.args.head.now d) (part.exec_all (setting_of c.args.context.now d) (scope_of c.args.scope.now) (stmts_view c.args.head.now.body.now))) (frame_of c.exec_all.new.locals.items c.exec_all.new.world))
