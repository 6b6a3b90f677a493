use Rattle.go_sound.proofs.Scope.{each_name_is_typed}
use Rattle.go_sound.proofs.programs.laws.names.Goals as goal

pub returns : goal.returns
returns c = record { typed = each_name_is_typed }
