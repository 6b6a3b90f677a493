use Rattle.std.proofs.Common.{subst}
use Rattle.js_tree.specs.Script.{Expr}
use Rattle.js_pool.specs.Tree as tree
use Rattle.js_pool.specs.Stands.{Stands}
use Rattle.js_body.specs.StepLaws.{if_true, if_false}
use Rattle.js_body.proofs.stack.join_of.Goals as goal

pub returns-then-both : goal.returns-then-both
returns-then-both c = (c.both.ensures.0, λ end g s t h k. subst (λ (z : Expr). Stands end c.both.result z) (if_true c.args.both (tree.both s t) (tree.either s t) c.if-both.true) (c.both.ensures.1 end g s t h k))

pub returns-else-both : goal.returns-else-both
returns-else-both c = (c.either.ensures.0, λ end g s t h k. subst (λ (z : Expr). Stands end c.either.result z) (if_false c.args.both (tree.both s t) (tree.either s t) c.if-both.false) (c.either.ensures.1 end g s t h k))
