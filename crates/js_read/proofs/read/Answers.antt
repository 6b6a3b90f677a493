use Rattle.js_read.proofs.Back.{no_other, given_back}
use Rattle.js_read.proofs.read.Goals as goal

pub returns-clause-one : goal.returns-clause-one
returns-clause-one c = no_other c.one_script.ensures c.args.bytes.now c.read_script.result c.read_script.ensures

pub returns-clause-back : goal.returns-clause-back
returns-clause-back c = given_back c.one_script.ensures c.reads_back.ensures c.args.bytes.now c.read_script.result c.read_script.ensures
