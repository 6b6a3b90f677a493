use Rattle.js_grammar.proofs.OneTree as one
use Rattle.js_grammar.proofs.laws.one_script.Goals as goal

pub returns : goal.returns
returns c bytes s t a b = one.one_script c.one_tree.ensures bytes s t a b
