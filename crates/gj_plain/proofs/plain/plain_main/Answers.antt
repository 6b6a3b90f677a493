use Rattle.std.proofs.Common.{arith}
use Rattle.gj_plain.proofs.PlainLemmas.{two_files}
use Rattle.gj_plain.proofs.plain.plain_main.Goals as goal

pub returns-in-len2-up : goal.returns-in-len2-up
returns-in-len2-up c = two_files c.args.files.now (omega (arith, c.in-len2-up.len_at_least))
