use Rattle.std.proofs.Common.{ap, sym, ◌∙◌, true, false}
use Rattle.js_tree.specs.Evaluate.{after_switch}
use Rattle.js_steps.specs.declared.frames.frame.Flow as step
use Rattle.js_steps.specs.Moment.{frame_in, flowing}
use Rattle.js_steps.specs.Stack.{label_of, flow_of}
use Rattle.js_steps.proofs.Targets.{switch_breaks}
use Rattle.js_steps.proofs.flow.jumps.after_switch.Goals as goal

pub returns-then-is_target : goal.returns-then-is_target
returns-then-is_target c = record {
  keeps = λ st m.
      sym (ap (λ (f : step.Flow). flowing m (after_switch (label_of c.args.label) (flow_of f) (frame_in m))) c.in-Breaks.is
      ∙ switch_breaks m (label_of c.args.label) (label_of c.in-Breaks.x) true c.is_target.result c.is_target.ensures.value c.if-is_target.true);
}

pub returns-else-is_target : goal.returns-else-is_target
returns-else-is_target c = record {
  keeps = λ st m.
      sym (ap (λ (f : step.Flow). flowing m (after_switch (label_of c.args.label) (flow_of f) (frame_in m))) c.in-Breaks.is
      ∙ switch_breaks m (label_of c.args.label) (label_of c.in-Breaks.x) false c.is_target.result c.is_target.ensures.value c.if-is_target.false);
}

pub returns-in-Onward : goal.returns-in-Onward
returns-in-Onward c = record { keeps = λ st m. sym (ap (λ (f : step.Flow). flowing m (after_switch (label_of c.args.label) (flow_of f) (frame_in m))) c.in-Onward.is) }

pub returns-in-Continues : goal.returns-in-Continues
returns-in-Continues c = record { keeps = λ st m. sym (ap (λ (f : step.Flow). flowing m (after_switch (label_of c.args.label) (flow_of f) (frame_in m))) c.in-Continues.is) }

pub returns-in-Returns : goal.returns-in-Returns
returns-in-Returns c = record { keeps = λ st m. sym (ap (λ (f : step.Flow). flowing m (after_switch (label_of c.args.label) (flow_of f) (frame_in m))) c.in-Returns.is) }
