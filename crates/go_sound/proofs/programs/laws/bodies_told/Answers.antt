use Rattle.go_sound.proofs.FaultyStatements.{bodies_told_exactly}
use Rattle.go_sound.proofs.programs.laws.bodies_told.Goals as goal

pub returns : goal.returns
returns c = record { exact = bodies_told_exactly }
