use Rattle.js_tree.specs.Value.{gives}
use Rattle.js_tree.specs.Evaluate.{Setting}
use Rattle.js_steps.specs.Moment.{flow}
use Rattle.js_steps.specs.Stack.{flow_of}
use Rattle.js_steps.specs.declared.frames.frame.Task.TheVariants.{Follow}
use Rattle.js_run.proofs.Tops.{taken, none_taken}
use Rattle.js_run.proofs.turns.step.follow_top.Goals as goal

pub returns-in-Some : goal.returns-in-Some
returns-in-Some c = record {
  keeps =
      taken c.args.stack.now.items c.pop.new.self.items c.pop.new.self.items c.args.state.now c.follow.new.state c.follow.result c.in-Some.frame (λ (st : Setting). gives (flow (flow_of c.args.completion)))
      c.in-Some.ensures.items (c.follow.ensures.keeps c.pop.new.self.items);
}

pub returns-in-None : goal.returns-in-None
returns-in-None c = record { keeps = none_taken c.args.stack.now.items c.pop.new.self.items c.args.state.now (Follow c.args.completion) c.in-None.ensures.items }
