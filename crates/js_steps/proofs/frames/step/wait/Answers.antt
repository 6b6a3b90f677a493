use Rattle.std.proofs.Common.{sym, subst, List, []}
use Rattle.js_tree.specs.Evaluate.{setting}
use Rattle.js_steps.specs.declared.frames.frame.Frame.{Frame}
use Rattle.js_steps.specs.Stack.{resume, frame_does, task_does}
use Rattle.js_steps.specs.Stands.{Leads, moment}
use Rattle.js_steps.specs.StepLaws.{pushed}
use Rattle.js_steps.proofs.frames.step.wait.Goals as goal

pub returns : goal.returns
returns c = record {
  keeps = λ s script choices fuel b vs h.
      let st = setting script choices fuel in
      let old = c.args.stack.now.items in
      subst (λ (fs : List Frame). Leads script choices fuel b (resume st old vs.callers (frame_does st c.args.frame [] (task_does st c.args.next (moment b vs s)))) fs s c.args.next)
      (sym c.in_ok-push.ensures.items) (pushed script choices fuel b vs old s c.args.frame c.args.next c.requires.no_call h);
}
