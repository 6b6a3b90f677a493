use Rattle.std.proofs.Common.{refl, sym}
use Rattle.js_value.specs.HeapSeen.{value_of}
use Rattle.js_steps.specs.declared.frames.frame.Task.TheVariants.{Give}
use Rattle.js_steps.specs.PartWaits.{second_does}
use Rattle.js_steps.specs.WayLaws.{goes_none}
use Rattle.js_steps.proofs.steps.give.give_second.Goals as goal

pub with_second-requires : goal.with_second-requires
with_second-requires c = record { held = sym c.in-Some.ensures.value }

pub returns-in-None : goal.returns-in-None
returns-in-None c = record { keeps = goes_none c.args.stack.now.items c.args.state.now c.args.i (Give c.args.v) (λ st t m. second_does st t (value_of c.args.u) (value_of c.args.v) m) (sym c.in-None.ensures.value) (λ st m. refl) }
