use Rattle.go_const.proofs.Laws.{unary_exact, unary_faults}
use Rattle.go_const.proofs.prefix.unary.Goals as goal

pub returns-clause-value : goal.returns-clause-value
returns-clause-value c = unary_exact c.args.op c.args.kind c.args.x.now c.requires c.unary_form.result c.unary_form.ensures

pub returns-clause-fault : goal.returns-clause-fault
returns-clause-fault c = unary_faults c.args.op c.args.kind c.args.x.now c.requires c.unary_form.result c.unary_form.ensures
