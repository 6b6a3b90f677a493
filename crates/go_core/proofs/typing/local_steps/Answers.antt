use Rattle.go_core.proofs.LocalFrames as local
use Rattle.go_core.proofs.typing.local_steps.Goals as goal

pub returns : goal.returns
returns c = record { keep = local.keep }
