use Rattle.js_emit.proofs.Last.{still}
use Rattle.js_emit.proofs.program.emit.Goals as goal

pub returns : goal.returns
returns c = record { last = c.script_of.ensures.last (c.add_start.ensures c.add_start.new.b.pool (still c.add_start.new.b.pool c.if-b.false)) }
