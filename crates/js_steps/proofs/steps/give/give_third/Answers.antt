use Rattle.std.proofs.Common.{refl, sym}
use Rattle.js_value.specs.HeapSeen.{value_of}
use Rattle.js_steps.specs.declared.frames.frame.Task.TheVariants.{Give}
use Rattle.js_steps.specs.PartWaits.{third_does}
use Rattle.js_steps.specs.WayLaws.{goes_none}
use Rattle.js_steps.proofs.steps.give.give_third.Goals as goal

pub returns-in-Some : goal.returns-in-Some
returns-in-Some c = record { keeps = λ stack. c.with_third.ensures.keeps stack c.args.i (sym c.in-Some.ensures.value) }

pub returns-in-None : goal.returns-in-None
returns-in-None c = record {
  keeps = λ stack. goes_none stack c.args.state.now c.args.i (Give c.args.x) (λ st t m. third_does t (value_of c.args.u) (value_of c.args.v) (value_of c.args.x) m) (sym c.in-None.ensures.value) (λ st m. refl);
}
