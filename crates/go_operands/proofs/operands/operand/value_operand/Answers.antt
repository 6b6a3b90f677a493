use Rattle.go_type.specs.Table.{size}
use Rattle.go_operands.proofs.operands.operand.value_operand.Goals as goal

pub returns-in-Untyped-clause-within : goal.returns-in-Untyped-clause-within
returns-in-Untyped-clause-within c = c.untyped.ensures.within (size c.args.table.now)
