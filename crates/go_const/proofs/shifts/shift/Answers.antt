use Rattle.go_const.proofs.Laws.{shift_exact, shift_faults}
use Rattle.go_const.proofs.shifts.shift.Goals as goal

pub returns-clause-value : goal.returns-clause-value
returns-clause-value c = shift_exact c.args.op c.args.kind c.args.x.now c.args.count.now c.requires c.shift_form.result c.shift_form.ensures

pub returns-clause-fault : goal.returns-clause-fault
returns-clause-fault c = shift_faults c.args.op c.args.kind c.args.x.now c.args.count.now c.requires c.shift_form.result c.shift_form.ensures
