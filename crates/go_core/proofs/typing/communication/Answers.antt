use Rattle.go_core.proofs.CommunicationStays as stays
use Rattle.go_core.proofs.CommunicationSteps as steps
use Rattle.go_core.proofs.typing.communication.Goals as goal

pub returns : goal.returns
returns c = record { reached = steps.reached; waiting = steps.waiting; ready = steps.ready; unready = stays.unready }
