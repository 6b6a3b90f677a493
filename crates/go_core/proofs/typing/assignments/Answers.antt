use Rattle.go_core.proofs.AssignSteps as steps
use Rattle.go_core.proofs.typing.assignments.Goals as goal

pub returns : goal.returns
returns c = record { stores = steps.stores; range_turns = steps.range_turns }
