use Rattle.std.proofs.Common.{arith}
use Rattle.gj_plain.proofs.PlainLemmas.{two_arguments}
use Rattle.gj_plain.proofs.plain.argument_text.Goals as goal

pub returns-in-len2-up : goal.returns-in-len2-up
returns-in-len2-up c = two_arguments c.args.args.now (omega (arith, c.in-len2-up.len_at_least))
