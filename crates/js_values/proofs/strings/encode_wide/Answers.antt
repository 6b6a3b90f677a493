use Rattle.js_values.specs.Steps.{last_done, sees1}
use Rattle.js_values.specs.Values.{wide_encoded_tree}
use Rattle.js_values.proofs.strings.encode_wide.Goals as goal

pub returns : goal.returns
returns c = last_done c.args.b.now c.pop-x.new.self c.encoded_wide-e.new.p c.push.new.self c.pop-x.result c.encoded_wide-e.result wide_encoded_tree c.pop-x.ensures (sees1 _ _ _ _ _ c.encoded_wide-e.ensures) c.push.ensures
