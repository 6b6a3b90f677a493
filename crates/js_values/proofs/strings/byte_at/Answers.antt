use Rattle.js_values.specs.Steps.{two_given}
use Rattle.js_values.specs.Values.{byte_refused, byte_tree}
use Rattle.js_values.proofs.strings.byte_at.Goals as goal

pub returns : goal.returns
returns c =
    two_given c.args.b.now c.pop-i.new.self c.pop-s.new.self c.byte_of-e.new.b c.push.new.self c.pop-i.result c.pop-s.result c.byte_of-e.result (byte_refused c.args.kind) (byte_tree c.args.kind) c.pop-i.ensures c.pop-s.ensures c.byte_of-e.ensures c.push.ensures
