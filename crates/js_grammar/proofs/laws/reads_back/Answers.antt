use Rattle.js_grammar.proofs.PrintedItems.{read_back}
use Rattle.js_grammar.proofs.laws.reads_back.Goals as goal

pub returns : goal.returns
returns c s q = read_back s q
