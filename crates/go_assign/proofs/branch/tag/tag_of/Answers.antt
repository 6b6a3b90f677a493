use Rattle.go_operands.specs.EnvView.{table_of}
use Rattle.go_walk.specs.WalkView.{walk_of}
use Rattle.go_assign.proofs.TagLemmas.{tag_some, told_some}
use Rattle.go_assign.proofs.branch.tag.tag_of.Goals as goal

pub returns-in-Ok-clause-tag : goal.returns-in-Ok-clause-tag
returns-in-Ok-clause-tag c = λ us. tag_some (walk_of us c.args.walk.now) (table_of c.given.new.walk.env) c.args.x.now c.in-Some.x c.in-Ok.tag c.in-Some.is (c.in-Ok.ensures.tag us)

pub returns-in-Ok-clause-told : goal.returns-in-Ok-clause-told
returns-in-Ok-clause-told c = λ us. told_some (walk_of us c.args.walk.now) c.args.flaws.now.items c.given.new.flaws.items c.args.x.now c.in-Some.x c.in-Some.is (c.in-Ok.ensures.told us)
