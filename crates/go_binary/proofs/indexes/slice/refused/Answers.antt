use Rattle.go_type.specs.Table.{size}
use Rattle.go_binary.proofs.indexes.slice.refused.Goals as goal

pub returns-in-Ok-clause-within : goal.returns-in-Ok-clause-within
returns-in-Ok-clause-within c = c.unless.ensures.within (size c.args.table.now) (c.in-Ok.ensures.within (size c.args.table.now))
