use Rattle.js_values.proofs.strings.split_as.Goals as goal

pub returns : goal.returns
returns c = λ end g. c.pop-x.ensures.0 end (c.call1-e.ensures.0.0 end (c.push.ensures.0 end g))
