use Rattle.js_grammar.proofs.Once.{only_answer}
use Rattle.js_grammar.proofs.laws.reads_once.Goals as goal

pub returns : goal.returns
returns c ts p r a b = only_answer a b
