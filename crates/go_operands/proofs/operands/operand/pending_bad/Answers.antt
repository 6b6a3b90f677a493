use Rattle.go_type.specs.Table.{size}
use Rattle.go_operands.proofs.operands.operand.pending_bad.Goals as goal

pub returns-in-Ok-bad-clause-within : goal.returns-in-Ok-bad-clause-within
returns-in-Ok-bad-clause-within c = c.unless.ensures.within (size c.args.table.now) (c.in-Ok-bad.ensures.within (size c.args.table.now))
