use Rattle.go_type.specs.Levels.{tree_of}
use Rattle.go_type.specs.Table.{places}
use Rattle.go_operands.proofs.SameTypeLemmas.{same_is}
use Rattle.go_operands.proofs.rules.kind.same_type.Goals as goal

pub returns : goal.returns
returns c = same_is (tree_of (places c.args.table.now) c.args.a) (tree_of (places c.args.table.now) c.args.b) c.identical.result c.identical.ensures.exact
