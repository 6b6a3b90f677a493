use Rattle.js_values.specs.Steps.{last_done, sees1}
use Rattle.js_values.specs.Values.{text_tree}
use Rattle.js_values.proofs.strings.join_as.Goals as goal

pub returns : goal.returns
returns c = last_done c.args.b.now c.pop-x.new.self c.text_of-e.new.p c.push.new.self c.pop-x.result c.text_of-e.result (text_tree c.args.runes) c.pop-x.ensures (sees1 _ _ _ _ _ c.text_of-e.ensures) c.push.ensures
