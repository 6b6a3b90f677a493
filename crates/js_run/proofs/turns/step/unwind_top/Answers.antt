use Rattle.js_tree.specs.Value.{throws}
use Rattle.js_tree.specs.Evaluate.{Setting}
use Rattle.js_value.specs.HeapSeen.{value_of}
use Rattle.js_steps.specs.declared.frames.frame.Task.TheVariants.{Throw}
use Rattle.js_run.proofs.Tops.{taken, none_taken}
use Rattle.js_run.proofs.turns.step.unwind_top.Goals as goal

pub returns-in-Some : goal.returns-in-Some
returns-in-Some c = record {
  keeps =
      taken c.args.stack.now.items c.pop.new.self.items c.unwind.new.stack.items c.args.state.now c.unwind.new.state c.unwind.result c.in-Some.frame (λ (st : Setting). throws c.args.at (value_of c.args.v))
      c.in-Some.ensures.items c.unwind.ensures.keeps;
}

pub returns-in-None : goal.returns-in-None
returns-in-None c = record { keeps = none_taken c.args.stack.now.items c.pop.new.self.items c.args.state.now (Throw c.args.at c.args.v) c.in-None.ensures.items }
