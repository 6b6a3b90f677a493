use Rattle.std.proofs.Common.{ap, sym, ◌∙◌, true, false}
use Rattle.js_code.specs.Parts.{stmt_at}
use Rattle.js_steps.specs.declared.frames.frame.Flow as step
use Rattle.js_steps.specs.Stack.{label_of, flow_of, turned}
use Rattle.js_steps.proofs.Targets.{turn_breaks, turn_continues}
use Rattle.js_steps.proofs.flow.jumps.after_turn.Goals as goal

pub returns-in-Onward : goal.returns-in-Onward
returns-in-Onward c = record { keeps = λ st m h. sym (ap (λ (f : step.Flow). turned st (stmt_at m.trees c.args.i) (flow_of f) m) c.in-Onward.is) }

pub returns-then-is_target : goal.returns-then-is_target
returns-then-is_target c = record {
  keeps = λ st m h.
      sym (ap (λ (f : step.Flow). turned st (stmt_at m.trees c.args.i) (flow_of f) m) c.in-Breaks.is
      ∙ turn_breaks st m c.args.i (label_of c.args.label) (label_of c.in-Breaks.x) true c.is_target.result h c.is_target.ensures.value c.if-is_target.true);
}

pub returns-else-is_target : goal.returns-else-is_target
returns-else-is_target c = record {
  keeps = λ st m h.
      sym (ap (λ (f : step.Flow). turned st (stmt_at m.trees c.args.i) (flow_of f) m) c.in-Breaks.is
      ∙ turn_breaks st m c.args.i (label_of c.args.label) (label_of c.in-Breaks.x) false c.is_target.result h c.is_target.ensures.value c.if-is_target.false);
}

pub returns-then-is_target-2 : goal.returns-then-is_target-2
returns-then-is_target-2 c = record {
  keeps = λ st m h.
      sym (ap (λ (f : step.Flow). turned st (stmt_at m.trees c.args.i) (flow_of f) m) c.in-Continues.is
      ∙ turn_continues st m c.args.i (label_of c.args.label) (label_of c.in-Continues.x) true c.is_target-in-Continues.result h c.is_target-in-Continues.ensures.value c.if-is_target-2.true);
}

pub returns-else-is_target-2 : goal.returns-else-is_target-2
returns-else-is_target-2 c = record {
  keeps = λ st m h.
      sym (ap (λ (f : step.Flow). turned st (stmt_at m.trees c.args.i) (flow_of f) m) c.in-Continues.is
      ∙ turn_continues st m c.args.i (label_of c.args.label) (label_of c.in-Continues.x) false c.is_target-in-Continues.result h c.is_target-in-Continues.ensures.value c.if-is_target-2.false);
}

pub returns-in-Returns : goal.returns-in-Returns
returns-in-Returns c = record { keeps = λ st m h. sym (ap (λ (f : step.Flow). turned st (stmt_at m.trees c.args.i) (flow_of f) m) c.in-Returns.is) }
