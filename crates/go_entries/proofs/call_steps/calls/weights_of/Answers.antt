use Rattle.std.proofs.Common.{◌∙◌, ap, take, ℕ, ◌+◌}
use Rattle.go_type.specs.Table.{places}
use Rattle.go_core.specs.Calls as calls
use Rattle.go_core.specs.CoreView.{func_view}
use Rattle.go_state.proofs.TodoLemmas.{if_ok}
use Rattle.go_entries.proofs.call_steps.calls.weights_of.Goals as goal

pub returns : goal.returns
returns c = record {
  value = if_ok c.sum.result (λ n h p g e.
      let ts = places c.args.c.now.table.now in
      let f = func_view ts c.args.func.now in
      h
      ∙ ap (λ (t : ℕ). t + c.in_ok-given.given) (c.in_ok-taken.ensures.value p g e ∙ ap (calls.weights p g) (c.params_of.ensures.value ts))
      ∙ ap (λ (t : ℕ). calls.weights p g (take c.args.count f.vars) + t) (c.in_ok-given.ensures.value p g e ∙ ap (calls.weights p g) (c.results_after.ensures.value ts))) c.sum.ensures.value;
}
