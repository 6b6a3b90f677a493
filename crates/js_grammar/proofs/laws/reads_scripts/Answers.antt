use Rattle.std.proofs.Common.{[]}
use Rattle.js_grammar.specs.Goals.{whole}
use Rattle.js_grammar.proofs.Sound.{read_is}
use Rattle.js_grammar.proofs.CompleteStmt.{whole_reads}
use Rattle.js_grammar.proofs.laws.reads_scripts.Goals as goal

pub returns : goal.returns
returns c ts s = (
  λ r. let w = read_is whole ts s [] r in record { start = w.start; items = w.items; is_name = w.is_name; call = w.call.is; at = w.at },
  λ b. whole_reads ts s b,
)
