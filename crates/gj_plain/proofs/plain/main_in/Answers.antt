use Rattle.std.proofs.Common.{arith}
use Rattle.gj_plain.proofs.PlainLemmas.{two_decls}
use Rattle.gj_plain.proofs.plain.main_in.Goals as goal

pub returns-in-len2-up : goal.returns-in-len2-up
returns-in-len2-up c = two_decls c.args.decls.now (omega (arith, c.in-len2-up.len_at_least))
