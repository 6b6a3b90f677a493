use Rattle.go_sound.proofs.Settles.{reaches_known}
use Rattle.go_sound.proofs.settled.laws.settling.Goals as goal

pub returns : goal.returns
returns c = record { reached = reaches_known }
