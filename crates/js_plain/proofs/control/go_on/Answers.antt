use Rattle.js_body.specs.State.{continued}
use Rattle.js_plain.specs.Control.{gone_on_to}
use Rattle.js_plain.specs.Lines.{then_does}
use Rattle.js_plain.proofs.control.go_on.Goals as goal

pub returns : goal.returns
returns c = then_does c.args.b.now c.note_continued.new.self c.say_again.new.b (continued c.args.label) (gone_on_to c.args.exits) c.note_continued.ensures c.say_again.ensures
