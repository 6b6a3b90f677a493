use Rattle.go_syntax.specs.View.{stmt_view}
use Rattle.go_walk.specs.Parts.{parts_since}
use Rattle.go_body.proofs.LeafLemmas.{many_over, many_under}
use Rattle.go_body.proofs.leaf.leaf.too_many.Goals as goal

pub returns-then-count-gt1000 : goal.returns-then-count-gt1000
returns-then-count-gt1000 c = record {
  value = many_over c.in_ok-is_typed.is_typed (parts_since c.args.before c.args.wrong.now (stmt_view c.args.s.now) c.args.walk.now) c.args.count c.if-count-gt1000.true c.in_ok-is_typed.ensures.value;
}

pub returns : goal.returns
returns c = record {
  value = many_under (parts_since c.args.before c.args.wrong.now (stmt_view c.args.s.now) c.args.walk.now) c.args.count c.if-count-gt1000.false;
}
