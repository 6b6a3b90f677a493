use Rattle.go_sound.proofs.FaultyCircles.{circles_told_exactly}
use Rattle.go_sound.proofs.programs.laws.circles_told.Goals as goal

pub returns : goal.returns
returns c = record { exact = circles_told_exactly }
