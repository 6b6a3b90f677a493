use Rattle.js_values.proofs.logic.begin_cases.Goals as goal

pub returns : goal.returns
returns c = λ end g. c.fresh-end.ensures.0 end (c.go_round.ensures end g)
