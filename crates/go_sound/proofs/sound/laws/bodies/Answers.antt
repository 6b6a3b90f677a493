use Rattle.go_sound.proofs.GoesOnBodies.{statements_go_on, blocks_leave_scopes, variables_differ}
use Rattle.go_sound.proofs.sound.laws.bodies.Goals as goal

pub returns : goal.returns
returns c = record { statements = statements_go_on; blocks = blocks_leave_scopes; variables = variables_differ }
