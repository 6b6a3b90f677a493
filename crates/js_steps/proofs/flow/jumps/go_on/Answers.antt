use Rattle.std.proofs.Common.{ap, sym, ◌∙◌}
use Rattle.js_tree.specs.Evaluate.{go_on}
use Rattle.js_steps.specs.declared.frames.frame.Flow as step
use Rattle.js_steps.specs.Moment.{frame_in, flowing}
use Rattle.js_steps.specs.Stack.{flow_of}
use Rattle.js_steps.proofs.flow.jumps.go_on.Goals as goal

pub returns-in-Onward : goal.returns-in-Onward
returns-in-Onward c = record { keeps = λ st m k h. h ∙ sym (ap (λ (f : step.Flow). flowing m (go_on k (flow_of f) (frame_in m))) c.in-Onward.is) }

pub returns-in-Breaks : goal.returns-in-Breaks
returns-in-Breaks c = record { keeps = λ st m k h. sym (ap (λ (f : step.Flow). flowing m (go_on k (flow_of f) (frame_in m))) c.in-Breaks.is) }

pub returns-in-Continues : goal.returns-in-Continues
returns-in-Continues c = record { keeps = λ st m k h. sym (ap (λ (f : step.Flow). flowing m (go_on k (flow_of f) (frame_in m))) c.in-Continues.is) }

pub returns-in-Returns : goal.returns-in-Returns
returns-in-Returns c = record { keeps = λ st m k h. sym (ap (λ (f : step.Flow). flowing m (go_on k (flow_of f) (frame_in m))) c.in-Returns.is) }
