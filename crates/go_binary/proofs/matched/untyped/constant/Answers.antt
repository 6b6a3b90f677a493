use Rattle.go_type.specs.Table.{size}
use Rattle.go_binary.proofs.matched.untyped.constant.Goals as goal

pub returns-in-Constant-clause-within : goal.returns-in-Constant-clause-within
returns-in-Constant-clause-within c = c.two_constants.ensures.within (size c.args.table.now)
