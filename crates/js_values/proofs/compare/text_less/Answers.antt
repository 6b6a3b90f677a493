use Rattle.js_values.specs.Steps.{two_done, sees2}
use Rattle.js_values.specs.Values.{order_tree}
use Rattle.js_values.proofs.compare.text_less.Goals as goal

pub returns : goal.returns
returns c = two_done c.args.b.now c.pop-y.new.self c.pop-x.new.self c.in_order-e.new.p c.push.new.self c.pop-y.result c.pop-x.result c.in_order-e.result (order_tree c.args.op) c.pop-y.ensures c.pop-x.ensures (sees2 _ _ _ _ _ _ c.in_order-e.ensures) c.push.ensures
