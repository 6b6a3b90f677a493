use Rattle.std.proofs.Common.{map}
use Rattle.go_syntax.specs.View.{expr_view}
use Rattle.go_calls.specs.Words.{types_of}
use Rattle.go_expr.specs.Raw.{raws_view}
use Rattle.go_assign.specs.LeftView.{lefts_view}
use Rattle.go_assign.proofs.TopLemmas.{assign_does}
use Rattle.go_assign.proofs.assign.top.assign.Goals as goal

pub returns-in-Ok-all_stored : goal.returns-in-Ok-all_stored
returns-in-Ok-all_stored c =
    let ts = types_of c.sides.new.walk.env in
    record {
      does = assign_does c.args.at (map expr_view c.args.xs.now) (map expr_view c.args.ys.now) c.args.walk.now c.both_used.new.walk c.sides.new.walk (lefts_view ts c.in-Ok.parts.0) (raws_view ts c.in-Ok.parts.1) c.args.flaws.now.items c.all_stored.new.flaws.items c.args.out.now.items c.all_stored.new.out.items
          c.in_ok-both_used.ensures.moves c.in_ok-both_used.ensures.env c.in-Ok.ensures.stays c.in-Ok.ensures.lefts c.in-Ok.ensures.raws c.in-Ok-all_stored.ensures.adds;
    }
