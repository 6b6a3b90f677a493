use Rattle.go_type.specs.Levels.{tree_of}
use Rattle.go_sound_nodes.specs.Around.{trees_in}
use Rattle.go_sound_nodes.proofs.judge.Judge.has_type.Goals as goal

pub returns-in-Some : goal.returns-in-Some
returns-in-Some c = record { is = λ h. (tree_of (trees_in c.args.self.now) c.in-Some._t, c.in-Some.ensures.is) }
