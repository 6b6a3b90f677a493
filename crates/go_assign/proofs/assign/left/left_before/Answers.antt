use Rattle.go_syntax.specs.View.{expr_view}
use Rattle.go_assign.proofs.LeftLemmas.{before_view, lefts_more}
use Rattle.go_assign.proofs.assign.left.left_before.Goals as goal

pub returns-clause-view : goal.returns-clause-view
returns-clause-view c = before_view c.args.env.now c.left_of.new.env (expr_view c.args.e.now) c.args.lefts.now.items.items c.push.new.self.items c.in_ok-left.left c.in_ok-push.ensures.items c.in_ok-left.ensures.view c.in_ok-left.ensures.grows c.requires.within

pub returns-clause-within : goal.returns-clause-within
returns-clause-within c = lefts_more c.args.env.now c.left_of.new.env c.args.lefts.now.items.items c.push.new.self.items c.in_ok-left.left c.in_ok-push.ensures.items c.in_ok-left.ensures.grows c.requires.within c.in_ok-left.ensures.within
