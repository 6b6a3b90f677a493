use Rattle.std.proofs.Common.{map}
use Rattle.go_syntax.specs.View.{expr_view}
use Rattle.go_calls.specs.Words.{types_of}
use Rattle.go_expr.specs.Raw.{raws_view}
use Rattle.go_assign.specs.LeftView.{lefts_view}
use Rattle.go_define.proofs.UpdateTopLemmas.{update_not_does}
use Rattle.go_define.proofs.update.top.update_not.Goals as goal

pub returns-in-Ok-miscounted : goal.returns-in-Ok-miscounted
returns-in-Ok-miscounted c =
    let ts = types_of c.sides.new.walk.env in
    record {
      does = λ out.
          update_not_does c.args.at (map expr_view c.args.xs.now) (map expr_view c.args.ys.now) c.args.walk.now c.all_sides_used.new.walk c.sides.new.walk (lefts_view ts c.in-Ok.parts.0) (raws_view ts c.in-Ok.parts.1) c.args.flaws.now.items c.miscounted.new.flaws.items out c.in_ok-all_sides_used.ensures.moves
          c.in_ok-all_sides_used.ensures.env c.in-Ok.ensures.stays c.in-Ok.ensures.lefts c.in-Ok.ensures.raws c.in-Ok-miscounted.ensures.told;
    }
