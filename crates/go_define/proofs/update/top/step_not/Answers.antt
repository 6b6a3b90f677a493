use Rattle.std.proofs.Common.{map}
use Rattle.go_syntax.specs.View.{expr_view}
use Rattle.go_calls.specs.Words.{types_of}
use Rattle.go_expr.specs.Raw.{raws_view}
use Rattle.go_define.proofs.UpdateTopLemmas.{step_not_does}
use Rattle.go_define.proofs.update.top.step_not.Goals as goal

pub returns-in-Ok-miscounted : goal.returns-in-Ok-miscounted
returns-in-Ok-miscounted c =
    let ts = types_of c.all_typed.new.walk.env in
    record {
      does = λ out.
          step_not_does c.args.at (map expr_view c.args.xs.now) c.args.walk.now c.all_used.new.walk c.all_typed.new.walk c.new.result.items ts (raws_view ts c.in-Ok.raws) c.args.flaws.now.items c.miscounted.new.flaws.items out c.in_ok-all_used.ensures.moves c.in_ok-all_used.ensures.env c.in-Ok.ensures.stays
          c.new.ensures.items c.in-Ok.ensures.view c.in-Ok-miscounted.ensures.told;
    }
