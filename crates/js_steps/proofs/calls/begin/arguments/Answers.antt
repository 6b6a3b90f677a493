use Rattle.std.proofs.Common.{sym, ◌∙◌}
use Rattle.js_value.specs.HeapSeen.{value_of, values_of}
use Rattle.js_steps.specs.FoundLaws.{all_simple_marked}
use Rattle.js_steps.proofs.Taken.{found_arguments, stopped_arguments, next_argument, last_argument}
use Rattle.js_steps.proofs.calls.begin.arguments.Goals as goal

pub simple_onto-requires : goal.simple_onto-requires
simple_onto-requires c = record { simple = all_simple_marked c.args.state.now.body.now c.args.list (sym c.is_simple.ensures.value ∙ c.if-is_simple.true) }

pub returns-then-is_simple : goal.returns-then-is_simple
returns-then-is_simple c = record {
  keeps =
      found_arguments c.args.env.now c.args.stack.now.items c.call_value.new.stack.items c.args.state.now c.simple_onto.new.state c.call_value.new.state c.call_value.result c.args.at c.args.usage (value_of c.args.callee) c.args.values.items
      c.simple_onto.new.values.items c.args.list c.in_ok-simple_onto.ensures.same c.in_ok-simple_onto.ensures.value c.call_value.ensures.keeps;
}

pub returns-in_err-simple_onto : goal.returns-in_err-simple_onto
returns-in_err-simple_onto c = record {
  keeps =
      stopped_arguments c.args.env.now c.args.stack.now.items c.args.state.now c.simple_onto.new.state c.from_residual.result _ c.args.at c.args.usage (value_of c.args.callee) c.args.values.items
      c.simple_onto.new.values.items c.args.list c.from_residual.ensures.1 c.in_err-simple_onto.ensures.value;
}

pub returns-in-Some : goal.returns-in-Some
returns-in-Some c = record {
  keeps =
      next_argument c.args.env.now c.args.stack.now.items c.wait.new.stack.items c.args.state.now c.args.state.now c.wait.result c.args.at c.args.usage (value_of c.args.callee) (values_of c.args.values.items) c.args.list
      c.cell_at.result c.in-Some.cell c.cell_at.ensures.value c.in-Some.is (c.wait.ensures.keeps c.args.state.now);
}

pub returns-in-None : goal.returns-in-None
returns-in-None c = record {
  keeps =
      last_argument c.args.env.now c.args.stack.now.items c.call_value-in-None.new.stack.items c.args.state.now c.call_value-in-None.new.state c.call_value-in-None.result c.args.at c.args.usage (value_of c.args.callee)
      (values_of c.args.values.items) c.args.list c.cell_at.result c.cell_at.ensures.value c.in-None.is c.call_value-in-None.ensures.keeps;
}
