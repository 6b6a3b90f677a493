use Rattle.std.proofs.Common.{sym}
use Rattle.go_sound_nodes.specs.Around.{trees_in}
use Rattle.go_sound_nodes.proofs.judge.Judge.local_type.Goals as goal

pub returns-in-Some : goal.returns-in-Some
returns-in-Some c = record { is = sym (c.in-Some.ensures.is (trees_in c.args.self.now)) }
