use Rattle.js_int.specs.Operation.{unary_tree}
use Rattle.js_values.specs.Steps.{last_done, sees1}
use Rattle.js_values.proofs.numbers.unary_of.Goals as goal

pub returns : goal.returns
returns c = last_done c.args.b.now c.pop-x.new.self c.unary-e.new.p c.push.new.self c.pop-x.result c.unary-e.result (unary_tree c.args.op c.args.kind) c.pop-x.ensures (sees1 _ _ _ _ _ c.unary-e.ensures) c.push.ensures
