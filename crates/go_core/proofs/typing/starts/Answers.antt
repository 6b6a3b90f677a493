use Rattle.go_core.proofs.StartTyped as start
use Rattle.go_core.proofs.typing.starts.Goals as goal

pub returns : goal.returns
returns c = record { well_formed = start.starts }
