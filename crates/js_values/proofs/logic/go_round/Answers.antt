use Rattle.js_values.proofs.logic.go_round.Goals as goal

pub returns-then-goes_on : goal.returns-then-goes_on
returns-then-goes_on c = c.jump_unless.ensures

pub returns-else-goes_on : goal.returns-else-goes_on
returns-else-goes_on c = c.jump_if.ensures
