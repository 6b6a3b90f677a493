use Rattle.go_syntax.specs.View.{expr_view}
use Rattle.go_calls.specs.Words.{types_of}
use Rattle.go_walk.specs.WalkView.{walk_outside}
use Rattle.go_assign.specs.LeftView.{left_view}
use Rattle.go_assign.proofs.BareLemmas.{left_is_named}
use Rattle.go_assign.proofs.assign.left.left_of.Goals as goal

pub returns-in-Ok-clause-view : goal.returns-in-Ok-clause-view
returns-in-Ok-clause-view c =
    left_is_named (walk_outside c.named.new.env) (expr_view c.args.e.now) (expr_view c.bare-whole.result.now) c.in-Some.text.now (left_view (types_of c.named.new.env) c.in-Ok.left) c.in-Some.ensures.value c.bare-whole.ensures.value c.if-is_blank.ensures.value c.in-Ok.ensures.view
