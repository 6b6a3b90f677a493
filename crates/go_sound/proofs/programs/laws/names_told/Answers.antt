use Rattle.go_sound.proofs.FaultyNames.{names_told_exactly}
use Rattle.go_sound.proofs.programs.laws.names_told.Goals as goal

pub returns : goal.returns
returns c = record { exact = names_told_exactly }
