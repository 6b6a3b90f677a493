use Rattle.js_value.specs.HeapSeen.{value_of}
use Rattle.js_steps.proofs.Given.{picks, no_pick}
use Rattle.js_steps.proofs.calls.host.pick.Goals as goal

pub returns-in-Some : goal.returns-in-Some
returns-in-Some c = record { keeps = λ stack s. picks stack s c.args.at c.args.usage (value_of c.args.k) c.in-Some.k c.in-Some.ensures.value }

pub returns-in-None : goal.returns-in-None
returns-in-None c = record { keeps = λ stack s. no_pick stack s c.args.at c.args.usage (value_of c.args.k) c.in-None.ensures.value }
