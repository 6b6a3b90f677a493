use Rattle.js_values.proofs.strings.join.Goals as goal

pub returns : goal.returns
returns c = c.join_as.ensures.0
