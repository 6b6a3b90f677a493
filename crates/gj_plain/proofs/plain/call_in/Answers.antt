use Rattle.std.proofs.Common.{arith}
use Rattle.gj_plain.proofs.PlainLemmas.{two_calls}
use Rattle.gj_plain.proofs.plain.call_in.Goals as goal

pub returns-in-len2-up : goal.returns-in-len2-up
returns-in-len2-up c = two_calls c.args.exprs.now (omega (arith, c.in-len2-up.len_at_least))
