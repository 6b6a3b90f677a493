use Rattle.go_type.specs.Levels.{tree_of}
use Rattle.go_type.specs.Table.{places}
use Rattle.go_sound_nodes.proofs.targets.receives_into.Goals as goal

pub returns-in-Some : goal.returns-in-Some
returns-in-Some c = record { is = λ h. (tree_of (places c.args.p.now.types) c.in-Some.element, c.in-Some.ensures.is, c.receives.ensures.is h) }
