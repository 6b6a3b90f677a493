use Rattle.go_type.specs.Table.{size}
use Rattle.go_operands.specs.EnvView.{table_of}
use Rattle.go_expr.proofs.parts.leaf.string.Goals as goal

pub hear-requires-clause-answer : goal.hear-requires-clause-answer
hear-requires-clause-answer c = c.in-Ok.ensures.within (size (table_of c.args.env.now))
