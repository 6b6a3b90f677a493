use Rattle.go_const.proofs.Laws.{conversion_exact, conversion_faults}
use Rattle.go_const.proofs.conversion.convert.Goals as goal

pub returns-clause-value : goal.returns-clause-value
returns-clause-value c = conversion_exact c.args.x.now c.args.to c.requires c.convert_form.result c.convert_form.ensures

pub returns-clause-fault : goal.returns-clause-fault
returns-clause-fault c = conversion_faults c.args.x.now c.args.to c.requires c.convert_form.result c.convert_form.ensures
