use Rattle.go_sound.proofs.Whole.{programs_are_sound}
use Rattle.go_sound.proofs.programs.laws.programs.Goals as goal

pub returns : goal.returns
returns c = record { sound = programs_are_sound }
