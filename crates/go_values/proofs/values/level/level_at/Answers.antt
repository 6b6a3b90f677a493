use Rattle.std.proofs.Common.{arith}
use Rattle.go_values.proofs.ValuesLevelLemmas.{outside}
use Rattle.go_values.proofs.values.level.level_at.Goals as goal

pub returns-else-t-len-clause-none : goal.returns-else-t-len-clause-none
returns-else-t-len-clause-none c = outside c.args.table.now c.args.t (omega (arith, c.if-t-len.false, c.len.ensures.value))
