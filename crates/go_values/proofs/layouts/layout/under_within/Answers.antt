use Rattle.go_type.specs.Table.{places, names}
use Rattle.go_values.proofs.LayoutSteps.{named_some, named_none, named_zero, left_some}
use Rattle.go_values.proofs.layouts.layout.under_within.Goals as goal

pub returns-then-left-eq0-clause-none : goal.returns-then-left-eq0-clause-none
returns-then-left-eq0-clause-none c = named_zero (names c.args.table.now) c.args.left c.args.id.0 c.if-left-eq0.true

pub returns-clause-some : goal.returns-clause-some
returns-clause-some c = named_some (names c.args.table.now) (places c.args.table.now) c.args.left c.args.id.0 c.under_of.result c.if-left-eq0.false c.under_of.ensures.value

pub returns-clause-none : goal.returns-clause-none
returns-clause-none c = named_none (names c.args.table.now) (places c.args.table.now) c.args.left c.args.id.0 c.under_of.result c.if-left-eq0.false c.under_of.ensures.value

pub returns-clause-left : goal.returns-clause-left
returns-clause-left c = left_some c.args.left c.under_of.result c.if-left-eq0.false
