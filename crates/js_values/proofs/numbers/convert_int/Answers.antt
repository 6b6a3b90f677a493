use Rattle.js_int.specs.Convert.{convert_tree}
use Rattle.js_values.specs.Steps.{last_done, sees1}
use Rattle.js_values.proofs.numbers.convert_int.Goals as goal

pub returns : goal.returns
returns c = last_done c.args.b.now c.pop-x.new.self c.convert-e.new.p c.push.new.self c.pop-x.result c.convert-e.result (convert_tree c.args.from c.args.to) c.pop-x.ensures (sees1 _ _ _ _ _ c.convert-e.ensures) c.push.ensures
