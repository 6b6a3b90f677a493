use Rattle.std.proofs.Common.{[], sym, ◌∙◌}
use Rattle.js_code.specs.Parts.{exprs_at}
use Rattle.js_steps.specs.Moment.{arguments_do}
use Rattle.js_steps.specs.FoundLaws.{simple_marked, found_value_in, found_stop}
use Rattle.js_steps.proofs.Goes.{same_kept}
use Rattle.js_steps.proofs.Taken.{callee_waits}
use Rattle.js_steps.proofs.calls.begin.call.Goals as goal

pub simple-requires : goal.simple-requires
simple-requires c = record { simple = simple_marked c.args.state.now.body.now c.args.callee (sym c.is_simple.ensures.value ∙ c.if-is_simple.true) }

pub returns-then-is_simple : goal.returns-then-is_simple
returns-then-is_simple c = record {
  keeps =
      found_value_in c.args.env.now c.args.stack.now.items c.with_callee.new.stack.items c.args.state.now c.simple.new.state c.with_callee.new.state c.in_ok-v.v c.with_callee.result c.args.callee
      (λ st v m. arguments_do st c.args.at c.args.usage v [] (exprs_at m.trees c.args.list) m) c.in_ok-v.ensures.same c.in_ok-v.ensures.value c.with_callee.ensures.keeps;
}

pub returns-in_err-v : goal.returns-in_err-v
returns-in_err-v c = record {
  keeps = λ script choices fuel b vs program h.
      same_kept script choices fuel b _ c.args.stack.now.items c.simple.new.state c.from_residual.result _ c.from_residual.ensures.1
      (found_stop c.args.stack.now.items c.args.state.now c.simple.new.state _ c.args.callee (λ st v m. arguments_do st c.args.at c.args.usage v [] (exprs_at m.trees c.args.list) m) c.in_err-v.ensures.value script choices fuel b vs h);
}

pub returns : goal.returns
returns c = record {
  keeps =
      callee_waits c.args.env.now c.args.stack.now.items c.wait.new.stack.items c.args.state.now c.args.state.now c.wait.result c.args.i c.args.at c.args.callee c.args.list c.args.usage c.requires.held
      (c.wait.ensures.keeps c.args.state.now);
}
