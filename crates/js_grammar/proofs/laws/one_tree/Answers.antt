use Rattle.std.proofs.Common.{ap, List}
use Rattle.js_tree.specs.Lexical.{Placed}
use Rattle.js_tree.specs.Script.{ScriptTree}
use Rattle.js_grammar.proofs.Once.{reads_once}
use Rattle.js_grammar.proofs.CompleteStmt.{whole_reads}
use Rattle.js_grammar.proofs.laws.one_tree.Goals as goal

pub returns : goal.returns
returns c ts s t a b = ap (λ (z : ScriptTree × List Placed). z.0) (reads_once (whole_reads ts s a) (whole_reads ts t b))
