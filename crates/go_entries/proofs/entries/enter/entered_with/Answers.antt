use Rattle.std.proofs.Common.{◌∙◌, [], sym, ap, length, take, ℕ, List}
use Rattle.std.specs.Prelude.{Some}
use Rattle.std.specs.Borrow.{Bor}
use Rattle.std.proofs.lemmas.List.{length-map}
use Rattle.go_type.specs.Table.{places, names}
use Rattle.go_core.specs.Calls.{with_vars, result_vars}
use Rattle.go_core.specs.CoreView.{func_view}
use Rattle.go_core.specs.Goroutine as defined
use Rattle.go_values.specs.ValuesSeen.{value_of, values_of}
use Rattle.go_values.specs.declared.values.scalar.Scalar.{Scalar}
use Rattle.go_state.specs.StateSeen.{invocation_of, purpose_of, stack_of, stacked, tasks_of, vars_of}
use Rattle.go_state.specs.declared.state.frame.Invocation.{Invocation}
use Rattle.go_state.specs.Bound.{bindings_of}
use Rattle.go_entries.specs.EntriesSeen.{adapted_of}
use Rattle.go_entries.proofs.EntriesEnterLemmas.{not_entered, bound_of, entered_by, entered_none, framed_with}
use Rattle.go_entries.proofs.entries.enter.entered_with.Goals as goal

pub returns-in_err-given : goal.returns-in_err-given
returns-in_err-given c =
    let w = c.args.c.now.table.now in
    let ts = places w in
    let f = func_view ts c.args.func.now in
    let a = adapted_of ts c.args.adapted c.args.m.now in
    let operands = c.args.adapted.operands.items in
    let s = bindings_of ts c.in_ok-at.at.items c.args.m.now 0 in
    let seen = λ (x : Bor (List Scalar)). value_of ts x.now in
    let begun = ap (λ (ps : List defined.Place). bound_of ps a.memory 0) (c.in_ok-at.ensures.value ts) in
    let n = ap length c.as_slice-operands.ensures.value ∙ sym (length-map operands seen) in
    let params = c.params_of-params.ensures.value ts ∙ ap (λ (k : ℕ). take k f.vars) n in
    record {
      value =
          not_entered ts c.from_residual-in_err-given.result _ _ _ _ _ _ c.from_residual-in_err-given.ensures.1 c.in_err-given.ensures.value
          (λ h.
          entered_none (names w) c.args.number f c.args.bases.now (purpose_of c.args.purpose) a (vars_of ts c.params_of-params.result.now) s begun params
          (sym (ap (λ (xs : List (Bor (List Scalar))). with_vars (names w) (vars_of ts c.params_of-params.result.now) (values_of ts xs) s) c.as_slice-operands.ensures.value) ∙ h));
    }

pub returns : goal.returns
returns c =
    let w = c.args.c.now.table.now in
    let ts = places w in
    let f = func_view ts c.args.func.now in
    let a = adapted_of ts c.args.adapted c.args.m.now in
    let operands = c.args.adapted.operands.items in
    let s = bindings_of ts c.in_ok-at.at.items c.args.m.now 0 in
    let seen = λ (x : Bor (List Scalar)). value_of ts x.now in
    let begun = ap (λ (ps : List defined.Place). bound_of ps a.memory 0) (c.in_ok-at.ensures.value ts) in
    let n = ap length c.as_slice-operands.ensures.value ∙ sym (length-map operands seen) in
    let params = c.params_of-params.ensures.value ts ∙ ap (λ (k : ℕ). take k f.vars) n in
    let results = c.results_after-results.ensures.value ts ∙ ap (λ (k : ℕ). result_vars f k) n in
    let tasks = tasks_of ts c.in_ok-tasks.tasks.items in
    let us = vars_of ts c.results_after-results.result.now in
    let b = bindings_of ts c.bind_zeros.new.at.items c.bind_zeros.new.m c.in_ok-units.units in
    record {
      value =
          entered_by (names w) c.args.number f c.args.bases.now (purpose_of c.args.purpose) a (vars_of ts c.params_of-params.result.now) us tasks s _ b begun params results (c.in_ok-tasks.ensures.value ts)
          (sym (ap (λ (xs : List (Bor (List Scalar))). with_vars (names w) (vars_of ts c.params_of-params.result.now) (values_of ts xs) s) c.as_slice-operands.ensures.value) ∙ c.in_ok-given.ensures.value)
          c.in_ok-units.ensures.value
          ∙ sym (ap (λ (vs : List (Bor (List Scalar))). Some (framed_with (stack_of ts vs) (stacked (invocation_of ts) c.new-2.result.items) c.args.number tasks us (purpose_of c.args.purpose) b)) c.new.ensures.items
          ∙ ap (λ (ds : List Invocation). Some (framed_with [] (stacked (invocation_of ts) ds) c.args.number tasks us (purpose_of c.args.purpose) b)) c.new-2.ensures.items);
    }
