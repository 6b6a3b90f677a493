use Rattle.js_values.proofs.constants.zero_block.Goals as goal

pub returns : goal.returns
returns c = λ end g. c.zero-e.ensures.0 end (c.push.ensures.0 end g)
