use Rattle.js_steps.proofs.Once.{global_did, assign_stops, stopped_did}
use Rattle.js_steps.proofs.steps.at_once.global_at_once.Goals as goal

pub returns-then-is_simple : goal.returns-then-is_simple
returns-then-is_simple c = record {
  assigns = λ stack i at x held. global_did stack c.args.state.now c.simple.new.state c.set_global.new.state i at c.args.slot c.args.e x c.in_ok-v.v held c.in_ok-v.ensures.same c.in_ok-v.ensures.value c.set_global.ensures.same c.set_global.ensures.value;
}

pub returns-in_err-v : goal.returns-in_err-v
returns-in_err-v c = record {
  assigns = λ stack i at x held. stopped_did stack c.args.state.now c.simple.new.state c.from_residual.result _ _ c.from_residual.ensures.1 (assign_stops stack c.args.state.now c.simple.new.state _ at c.args.e x c.in_err-v.ensures.value);
}
