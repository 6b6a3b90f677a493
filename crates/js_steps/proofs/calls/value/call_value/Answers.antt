use Rattle.js_value.specs.HeapSeen.{values_of}
use Rattle.js_steps.proofs.Callees.{by_name, not_called}
use Rattle.js_steps.proofs.calls.value.call_value.Goals as goal

pub returns-in-Function : goal.returns-in-Function
returns-in-Function c = record {
  keeps =
      by_name c.args.env.now c.args.stack.now.items c.call_named.new.stack.items c.args.state.now c.call_named.new.state c.call_named.result c.args.at c.in-Function.n c.args.usage c.args.callee c.in-Function.x (values_of c.args.values.items)
      c.in-Function.is c.call_named.ensures.keeps;
}

pub returns : goal.returns
returns c = record {
  keeps = not_called c.args.env.now c.args.stack.now.items c.args.state.now c.args.at c.args.usage c.args.callee (values_of c.args.values.items) c.in_default.not-Function;
}
