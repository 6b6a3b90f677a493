use Rattle.std.proofs.Common.{refl, sym}
use Rattle.js_code.specs.Parts.{as_stmts}
use Rattle.js_steps.specs.declared.frames.frame.Flow.TheVariants.{Onward}
use Rattle.js_steps.specs.declared.frames.frame.Task.TheVariants.{Follow}
use Rattle.js_steps.specs.Moment.{stmts_do}
use Rattle.js_steps.specs.WayLaws.{goes_none}
use Rattle.js_steps.proofs.flow.order.statements.Goals as goal

pub begin_statements-requires : goal.begin_statements-requires
begin_statements-requires c = record { held = sym c.in-Some.ensures.value }

pub returns-in-None : goal.returns-in-None
returns-in-None c = record { keeps = goes_none c.args.stack.now.items c.args.state.now c.args.i (Follow Onward) (λ st t m. stmts_do st (as_stmts t) m) (sym c.in-None.ensures.value) (λ st m. refl) }
