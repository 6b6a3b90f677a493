use Rattle.go_core.proofs.WholeSteps as whole
use Rattle.go_core.proofs.typing.steps.Goals as goal

pub returns : goal.returns
returns c = record { able = whole.able_go; keep = whole.steps; reached = whole.reached; goes_on = whole.goes_further }
