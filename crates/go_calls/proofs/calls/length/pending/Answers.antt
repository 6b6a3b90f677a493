use Rattle.go_type.specs.Table.{size}
use Rattle.go_calls.proofs.calls.length.pending.Goals as goal

pub returns-in-Ok-no_length-clause-within : goal.returns-in-Ok-no_length-clause-within
returns-in-Ok-no_length-clause-within c = c.unless.ensures.within (size c.args.table.now) c.in-Ok-no_length.ensures.within
