use Rattle.js_facts.proofs.Places.{past_held}
use Rattle.js_facts.proofs.held.held_as.Goals as goal

pub returns-in-None : goal.returns-in-None
returns-in-None c = past_held c.args.table.now c.args.t c.in-None.ensures.none
