use Rattle.js_value.specs.HeapSeen.{value_of}
use Rattle.js_steps.specs.declared.frames.state.State.{State}
use Rattle.js_steps.proofs.Taken.{no_values_yet}
use Rattle.js_steps.proofs.calls.begin.with_callee.Goals as goal

pub returns : goal.returns
returns c = record {
  keeps =
      let s = c.args.state.now in
      let x : State = record s { spare = c.no_values-values.new.spare } in
      no_values_yet c.args.env.now c.args.stack.now.items c.arguments.new.stack.items s x c.arguments.new.state c.arguments.result c.args.at c.args.usage (value_of c.args.callee) c.no_values-values.result.items c.args.list
      c.no_values-values.ensures c.arguments.ensures.keeps;
}
