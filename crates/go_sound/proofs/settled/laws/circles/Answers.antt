use Rattle.go_sound.proofs.Needless.{circles_stay}
use Rattle.go_sound.proofs.settled.laws.circles.Goals as goal

pub returns : goal.returns
returns c = record { stay = circles_stay }
