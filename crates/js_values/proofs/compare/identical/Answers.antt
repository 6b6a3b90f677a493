use Rattle.js_values.specs.Steps.{two_done, sees2}
use Rattle.js_values.specs.Values.{same_tree}
use Rattle.js_values.proofs.compare.identical.Goals as goal

pub returns : goal.returns
returns c = two_done c.args.b.now c.pop-y.new.self c.pop-x.new.self c.same-e.new.p c.push.new.self c.pop-y.result c.pop-x.result c.same-e.result (same_tree c.args.negated) c.pop-y.ensures c.pop-x.ensures (sees2 _ _ _ _ _ _ c.same-e.ensures) c.push.ensures
