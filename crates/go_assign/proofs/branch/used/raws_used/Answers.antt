use Rattle.std.proofs.Common.{map}
use Rattle.go_syntax.specs.View.{expr_view}
use Rattle.go_calls.specs.Words.{types_of}
use Rattle.go_expr.specs.Raw.{raws_view}
use Rattle.go_assign.proofs.PassedLemmas.{raws_before}
use Rattle.go_assign.proofs.branch.used.raws_used.Goals as goal

pub returns-in-Ok-clause-view : goal.returns-in-Ok-clause-view
returns-in-Ok-clause-view c =
    raws_before c.args.walk.now.env c.use_exprs.new.walk.env c.all_in.new.env (map expr_view c.args.es.now) (raws_view (types_of c.all_in.new.env) c.in-Ok.raws) c.in_ok-use_exprs.ensures.env c.in-Ok.ensures.grows c.in-Ok.ensures.view
