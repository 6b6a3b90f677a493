use Rattle.std.proofs.Common.{map}
use Rattle.go_operands.specs.AnswerView.{flaw_view}
use Rattle.go_calls.specs.Words.{types_of}
use Rattle.go_assign.proofs.GrowLemmas.{same_walk}
use Rattle.go_syntax.specs.View.{expr_view}
use Rattle.go_expr.specs.Raw.{raws_view}
use Rattle.go_walk.specs.WalkView.{walk_outside}
use Rattle.go_decls.proofs.DeclsConstantLemmas.{miscounted}
use Rattle.go_decls.proofs.decls.constants.miscounted.Goals as goal

pub returns-in_ok-count_told-in-Ok-clause-told : goal.returns-in_ok-count_told-in-Ok-clause-told
returns-in_ok-count_told-in-Ok-clause-told c =
    let a = c.args.env.now in
    let b = c.all_in.new.env in
    let us = types_of b in
    miscounted (walk_outside a) (walk_outside b) c.args.ty (types_of a) us (map expr_view c.args.values.now) (raws_view us c.in-Ok.raws) c.args.at (map flaw_view c.args.flaws.now.items) (map flaw_view c.count_told.new.flaws.items)
    (same_walk a b c.in-Ok.ensures.grows) c.in-Ok.ensures.view (c.in_ok-count_told-in-Ok.ensures.told us)
