use Rattle.go_const.proofs.Laws.{binary_exact, binary_faults}
use Rattle.go_const.proofs.infix.binary.Goals as goal

pub returns-clause-value : goal.returns-clause-value
returns-clause-value c = binary_exact c.args.op c.args.kind c.args.x.now c.args.y.now c.requires c.binary_forms.result c.binary_forms.ensures

pub returns-clause-fault : goal.returns-clause-fault
returns-clause-fault c = binary_faults c.args.op c.args.kind c.args.x.now c.args.y.now c.requires c.binary_forms.result c.binary_forms.ensures
