use Rattle.go_type.specs.Table.{size}
use Rattle.go_binary.proofs.matched.untyped.pending_differs.Goals as goal

pub returns-in-Ok-clause-within : goal.returns-in-Ok-clause-within
returns-in-Ok-clause-within c = c.unfit_or_differ.ensures.within (size c.args.table.now)
