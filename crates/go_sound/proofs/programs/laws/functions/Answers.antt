use Rattle.go_sound.proofs.Functions.{functions_are_sound}
use Rattle.go_sound.proofs.programs.laws.functions.Goals as goal

pub returns : goal.returns
returns c = record { sound = functions_are_sound }
