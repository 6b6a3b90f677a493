use Rattle.js_grammar.proofs.OneTree as one
use Rattle.js_grammar.proofs.laws.one_list.Goals as goal

pub returns : goal.returns
returns c text at a b p q = one.one_list p b q
