use Rattle.go_core.proofs.CallSteps as call_steps
use Rattle.go_core.proofs.typing.call_steps.Goals as goal

pub returns : goal.returns
returns c = record { keep = call_steps.keep }
