use Rattle.js_int.specs.Operation.{binary_tree}
use Rattle.js_values.specs.Steps.{two_done}
use Rattle.js_values.proofs.numbers.lowered.Goals as goal

pub returns : goal.returns
returns c = two_done c.args.b.now c.pop-y.new.self c.pop-x.new.self c.binary-e.new.p c.push.new.self c.pop-y.result c.pop-x.result c.binary-e.result (binary_tree c.args.op c.args.kind) c.pop-y.ensures c.pop-x.ensures c.binary-e.ensures c.push.ensures
