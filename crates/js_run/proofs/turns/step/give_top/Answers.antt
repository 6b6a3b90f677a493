use Rattle.js_tree.specs.Value.{gives}
use Rattle.js_value.specs.HeapSeen.{value_of}
use Rattle.js_tree.specs.Evaluate.{Setting}
use Rattle.std.specs.Prelude.{Ok}
use Rattle.js_steps.specs.Moment.{value}
use Rattle.js_steps.specs.declared.frames.frame.Task.TheVariants.{Give}
use Rattle.js_run.proofs.Tops.{taken_in, none_taken, any_env}
use Rattle.js_run.proofs.turns.step.give_top.Goals as goal

pub returns-in-Some : goal.returns-in-Some
returns-in-Some c = record {
  keeps =
      taken_in c.args.env.now c.args.stack.now.items c.pop.new.self.items c.give.new.stack.items c.args.state.now c.give.new.state c.give.result c.in-Some.frame (λ (st : Setting). gives (value (value_of c.args.v)))
      c.in-Some.ensures.items c.give.ensures.keeps;
}

pub returns-in-None : goal.returns-in-None
returns-in-None c = record {
  keeps =
      any_env c.args.env.now c.args.stack.now.items c.pop.new.self.items c.args.state.now c.args.state.now (Ok (Give c.args.v)) (λ (st : Setting). gives (value (value_of c.args.v)))
      (none_taken c.args.stack.now.items c.pop.new.self.items c.args.state.now (Give c.args.v) c.in-None.ensures.items);
}
