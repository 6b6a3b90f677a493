use Rattle.go_sound.proofs.Bodies.{package_functions}
use Rattle.go_sound.proofs.programs.laws.package_functions.Goals as goal

pub returns : goal.returns
returns c = record { sound = package_functions }
