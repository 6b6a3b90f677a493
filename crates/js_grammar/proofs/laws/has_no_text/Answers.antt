use Rattle.js_grammar.proofs.SpareParentheses.{has_no_text}
use Rattle.js_grammar.proofs.laws.has_no_text.Goals as goal

pub returns : goal.returns
returns c = has_no_text
