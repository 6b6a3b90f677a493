use Rattle.go_sound.proofs.Statements.{statements_are_sound}
use Rattle.go_sound.proofs.programs.laws.statements.Goals as goal

pub returns : goal.returns
returns c = record { sound = statements_are_sound }
