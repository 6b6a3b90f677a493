use Rattle.go_syntax.specs.View.{expr_view}
use Rattle.go_calls.specs.Words.{scopes_of}
use Rattle.go_expr.proofs.ExprReadyLemmas.{ready}
use Rattle.go_expr.proofs.expr.answered.part_in.Goals as goal

pub walked-requires-clause-ready : goal.walked-requires-clause-ready
walked-requires-clause-ready c = ready (scopes_of c.gives_of.new.env) c.in_ok-gives.gives (expr_view c.args.e.now) c.in_ok-gives.ensures.given c.requires.numbers
