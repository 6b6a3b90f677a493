use Rattle.std.proofs.Common.{sym}
use Rattle.js_steps.proofs.steps.at_once.at_once.Goals as goal

pub returns-in-Some : goal.returns-in-Some
returns-in-Some c = record { value = λ stack. c.part_at_once.ensures.value stack c.args.i (sym c.in-Some.ensures.value) }
