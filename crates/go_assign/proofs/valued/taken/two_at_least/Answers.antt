use Rattle.std.proofs.Common.{arith}
use Rattle.go_type.specs.Table.{places}
use Rattle.go_assign.proofs.TakenLemmas.{several_one}
use Rattle.go_assign.proofs.valued.taken.two_at_least.Goals as goal

pub returns-in-len1-clause-value : goal.returns-in-len1-clause-value
returns-in-len1-clause-value c = several_one (places c.args.table.now) c.args.ids.now (omega arith)
