use Rattle.std.proofs.Common.{refl, sym}
use Rattle.js_code.specs.Parts.{as_else}
use Rattle.js_steps.specs.declared.frames.frame.Flow.TheVariants.{Onward}
use Rattle.js_steps.specs.declared.frames.frame.Task.TheVariants.{Follow}
use Rattle.js_steps.specs.Moment.{else_does}
use Rattle.js_steps.specs.WayLaws.{goes_none}
use Rattle.js_steps.proofs.flow.order.otherwise.Goals as goal

pub begin_else-requires : goal.begin_else-requires
begin_else-requires c = record { held = sym c.in-Some.ensures.value }

pub returns-in-None : goal.returns-in-None
returns-in-None c = record { keeps = goes_none c.args.stack.now.items c.args.state.now c.args.i (Follow Onward) (λ st t m. else_does st (as_else t) m) (sym c.in-None.ensures.value) (λ st m. refl) }
