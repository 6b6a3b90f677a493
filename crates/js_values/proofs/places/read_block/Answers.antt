use Rattle.js_values.proofs.places.read_block.Goals as goal

pub returns : goal.returns
returns c = λ end g. c.slot-x.ensures.0 end (c.copied-e.ensures end (c.push.ensures.0 end g))
