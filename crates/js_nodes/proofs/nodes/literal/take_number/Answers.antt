use Rattle.js_grammar.specs.Reads.{reads, answered}
use Rattle.js_nodes.proofs.nodes.literal.take_number.Goals as goal

pub returns-clause-read : goal.returns-clause-read
returns-clause-read c = reads (answered c.number_value.ensures.value)
