use Rattle.go_sound_nodes.specs.Around.{trees_in}
use Rattle.go_sound_nodes.proofs.judge.Judge.has_var.Goals as goal

pub returns : goal.returns
returns c = record { is = λ h. c.is_in_scope.ensures.is h (trees_in c.args.self.now) }
