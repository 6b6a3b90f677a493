use Rattle.js_values.proofs.compare.alike.Goals as goal

pub returns : goal.returns
returns c = λ end g.
    c.pop-y.ensures.0 end (c.pop-x.ensures.0 end (c.description-d.ensures end (c.call3-call.ensures.0.0 end (c.denied_if-e.ensures.0.0 end (c.push.ensures.0 end g)))))
