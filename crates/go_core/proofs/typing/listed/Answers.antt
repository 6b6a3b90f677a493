use Rattle.go_core.proofs.SampleListed as sample
use Rattle.go_core.proofs.typing.listed.Goals as goal

pub returns : goal.returns
returns c = record { sample = sample.sample_listed; mentioned = sample.mentioned_are_listed; nodes = sample.nodes_are_listed; parts = sample.parts_are_listed }
