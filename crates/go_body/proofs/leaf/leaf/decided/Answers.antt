use Rattle.go_syntax.specs.View.{expr_view}
use Rattle.go_calls.specs.Words.{types_of}
use Rattle.go_assign.specs.Settled.{valued_view}
use Rattle.go_body.proofs.LeafLemmas.{decided_core, decided_told}
use Rattle.go_body.proofs.leaf.leaf.decided.Goals as goal

pub returns-in-Ok-decided_by-clause-core : goal.returns-in-Ok-decided_by-clause-core
returns-in-Ok-decided_by-clause-core c = λ us.
    decided_core us c.args.walk.now c.use_expr.new.walk c.condition.new.env (expr_view c.args.x.now) (valued_view (types_of c.condition.new.env) c.in-Ok.valued) c.in-Ok-decided_by.core c.use_expr.ensures.env c.in-Ok.ensures.grows c.in-Ok.ensures.view c.in-Ok-decided_by.ensures.core

pub returns-in-Ok-decided_by-clause-told : goal.returns-in-Ok-decided_by-clause-told
returns-in-Ok-decided_by-clause-told c = λ us.
    decided_told us c.args.walk.now c.use_expr.new.walk c.condition.new.env (expr_view c.args.x.now) (valued_view (types_of c.condition.new.env) c.in-Ok.valued) c.args.flaws.now.items c.decided_by.new.flaws.items c.use_expr.ensures.env c.in-Ok.ensures.grows c.in-Ok.ensures.view c.in-Ok-decided_by.ensures.told
