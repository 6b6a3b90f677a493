use Rattle.go_core.proofs.GrowthSteps as growth
use Rattle.go_core.proofs.meaning.growth.Goals as goal

pub returns : goal.returns
returns c = record { steps = growth.steps; runs = growth.runs }
