use Rattle.js_steps.proofs.Sound.{adds_function}
use Rattle.js_steps.proofs.bodies.make.add_body.Goals as goal

pub returns-in_ok-push-in-Function : goal.returns-in_ok-push-in-Function
returns-in_ok-push-in-Function c = record {
  value = λ script n.
      adds_function script c.args.item.now _ c.in_ok-body-in-Function.body c.args.made.now.items c.push.new.self.items c.in-Function.is c.in_ok-push-in-Function.ensures.items
      (c.in_ok-body-in-Function.ensures.value script n);
}
