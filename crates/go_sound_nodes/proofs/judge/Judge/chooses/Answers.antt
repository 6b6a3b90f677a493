use Rattle.go_sound_nodes.specs.Around.{trees_in}
use Rattle.go_sound_nodes.proofs.judge.Judge.chooses.Goals as goal

pub returns-then-tests : goal.returns-then-tests
returns-then-tests c = record { is = λ known h. (c.tests.ensures.is known c.if-tests.true, c.has_default.ensures.is h (trees_in c.args.self.now)) }
