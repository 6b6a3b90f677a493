use Rattle.std.proofs.Common.{ap}
use Rattle.js_facts.specs.Held.{is_block}
use Rattle.js_facts.proofs.Places.{past_held}
use Rattle.js_facts.proofs.held.is_block.Goals as goal

pub returns-in-None : goal.returns-in-None
returns-in-None c = ap is_block (past_held c.args.table.now c.args.t c.in-None.ensures.none)
