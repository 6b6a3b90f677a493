use Rattle.js_grammar.proofs.Formed.{script_formed}
use Rattle.js_grammar.proofs.Nested.{script_nests_is}
use Rattle.js_grammar.proofs.laws.prints_where_nested.Goals as goal

pub returns : goal.returns
returns c bytes s h = script_nests_is s (script_formed bytes s h)
