use Rattle.std.proofs.Common.{arith}
use Rattle.gj_plain.proofs.PlainLemmas.{some_params}
use Rattle.gj_plain.proofs.plain.has_none.Goals as goal

pub returns-in-len1-up : goal.returns-in-len1-up
returns-in-len1-up c = some_params c.args.params.now c.as_slice.result.now c.as_slice.ensures.value (omega (arith, c.in-len1-up.len_at_least))
