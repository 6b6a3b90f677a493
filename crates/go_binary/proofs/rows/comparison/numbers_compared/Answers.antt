use Rattle.go_type.specs.Table.{size}
use Rattle.go_binary.proofs.rows.comparison.numbers_compared.Goals as goal

pub returns-in-Ok-numbers_at-clause-within : goal.returns-in-Ok-numbers_at-clause-within
returns-in-Ok-numbers_at-clause-within c = c.unless.ensures.within (size c.args.table.now) c.in-Ok-numbers_at.ensures.within
