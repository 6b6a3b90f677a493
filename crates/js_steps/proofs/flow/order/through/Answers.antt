use Rattle.std.proofs.Common.{refl, sym}
use Rattle.js_code.specs.Parts.{as_cases}
use Rattle.js_steps.specs.declared.frames.frame.Flow.TheVariants.{Onward}
use Rattle.js_steps.specs.declared.frames.frame.Task.TheVariants.{Follow}
use Rattle.js_tree.specs.Evaluate.{exec_through}
use Rattle.js_steps.specs.Moment.{frame_in, flowing}
use Rattle.js_steps.specs.WayLaws.{goes_none}
use Rattle.js_steps.proofs.flow.order.through.Goals as goal

pub begin_cases-requires : goal.begin_cases-requires
begin_cases-requires c = record { held = sym c.in-Some.ensures.value }

pub returns-in-None : goal.returns-in-None
returns-in-None c = record { keeps = goes_none c.args.stack.now.items c.args.state.now c.args.i (Follow Onward) (λ st t m. flowing m (exec_through st m.scope (as_cases t) (frame_in m))) (sym c.in-None.ensures.value) (λ st m. refl) }
