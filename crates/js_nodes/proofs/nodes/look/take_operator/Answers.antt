use Rattle.js_grammar.specs.Reads.{reads, answered}
use Rattle.js_nodes.proofs.nodes.look.take_operator.Goals as goal

pub returns-clause-read : goal.returns-clause-read
returns-clause-read c = reads (answered c.skip.ensures.value)
