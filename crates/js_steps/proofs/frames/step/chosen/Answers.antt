use Rattle.js_value.specs.HeapSeen.{value_of}
use Rattle.std.specs.Prelude.{Ok}
use Rattle.js_steps.specs.Stack.{task_does}
use Rattle.js_steps.specs.StepLaws.{goes}
use Rattle.js_steps.specs.ChoiceLaws.{chosen_left, chosen_right, chosen_stop}
use Rattle.js_steps.proofs.frames.step.chosen.Goals as goal

pub returns-then-truth : goal.returns-then-truth
returns-then-truth c = record {
  keeps = λ stack s.
      chosen_left stack stack s s (Ok c.args.left) c.args.at (value_of c.args.test) c.in_ok-truth.truth (λ st. task_does st c.args.left) (λ st. task_does st c.args.right) c.in_ok-truth.ensures.value c.if-truth.true
      (λ script choices fuel b vs h. goes script choices fuel b vs stack s c.args.left h);
}

pub returns : goal.returns
returns c = record {
  keeps = λ stack s.
      chosen_right stack stack s s (Ok c.args.right) c.args.at (value_of c.args.test) c.in_ok-truth.truth (λ st. task_does st c.args.left) (λ st. task_does st c.args.right) c.in_ok-truth.ensures.value c.if-truth.false
      (λ script choices fuel b vs h. goes script choices fuel b vs stack s c.args.right h);
}

pub returns-in_err-truth : goal.returns-in_err-truth
returns-in_err-truth c = record {
  keeps = λ stack s.
      chosen_stop stack s c.from_residual.result c.args.at (value_of c.args.test) _ (λ st. task_does st c.args.left) (λ st. task_does st c.args.right) c.from_residual.ensures.1 c.in_err-truth.ensures.value;
}
