use Rattle.go_sound.proofs.FaultyStatements.{statements_told_exactly}
use Rattle.go_sound.proofs.programs.laws.statements_told.Goals as goal

pub returns : goal.returns
returns c = record { exact = statements_told_exactly }
