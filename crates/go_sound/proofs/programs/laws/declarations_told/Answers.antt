use Rattle.go_sound.proofs.FaultyPackages.{decls_told_exactly}
use Rattle.go_sound.proofs.programs.laws.declarations_told.Goals as goal

pub returns : goal.returns
returns c = record { exact = decls_told_exactly }
