use Rattle.std.proofs.Common.{ap, sym, ◌∙◌, option_map}
use Rattle.js_code.specs.Places.{host_of}
use Rattle.js_steps.proofs.Callees.{named_function, named_host, named_none}
use Rattle.js_steps.proofs.calls.value.call_named.Goals as goal

pub returns-in-Some : goal.returns-in-Some
returns-in-Some c = record {
  keeps =
      named_function c.args.env.now c.args.stack.now.items c.call_function.new.stack.items c.args.state.now c.call_function.new.state c.call_function.result c.args.x.now c.args.at c.args.usage c.args.values.items
      c.in-Some.body.now c.in-Some.ensures.found c.call_function.ensures.keeps;
}

pub returns-in-Some-host_named : goal.returns-in-Some-host_named
returns-in-Some-host_named c = record {
  keeps =
      named_host c.args.env.now c.args.stack.now.items c.args.state.now c.call_outside.new.state c.call_outside.result c.args.x.now c.args.at c.args.usage c.args.values.items (option_map host_of c.host_named.result)
      (host_of c.in-Some-host_named.host) c.host_named.ensures.value (ap (option_map host_of) c.in-Some-host_named.is) (c.call_outside.ensures.keeps c.args.stack.now.items);
}

pub returns : goal.returns
returns c = record {
  keeps =
      named_none c.args.env.now c.args.stack.now.items c.args.state.now c.args.x.now c.args.at c.args.usage c.args.values.items c.in_default.ensures.none (sym c.host_named.ensures.value ∙ ap (option_map host_of) c.in-None.is);
}
