use Rattle.go_sound.proofs.FaultyPackages.{told_exactly}
use Rattle.go_sound.proofs.programs.laws.told_exactly.Goals as goal

pub returns : goal.returns
returns c = record { exact = told_exactly }
