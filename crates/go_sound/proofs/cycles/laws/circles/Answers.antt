use Rattle.go_sound.proofs.Reached.{reaches_itself}
use Rattle.go_sound.proofs.cycles.laws.circles.Goals as goal

pub returns : goal.returns
returns c = record { reached = reaches_itself }
