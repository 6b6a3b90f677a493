use Rattle.go_calls.specs.Words.{types_of}
use Rattle.go_expr.specs.Raw.{raws_view}
use Rattle.go_define.proofs.ReturnLemmas.{untyped_does}
use Rattle.go_define.proofs.simple.returned.untyped.Goals as goal

pub returns-in_ok-move_all-in-Ok : goal.returns-in_ok-move_all-in-Ok
returns-in_ok-move_all-in-Ok c = record {
  does = λ out.
      let ts = types_of c.raws_used.new.walk.env in
      untyped_does c.args.at c.args.named c.args.ys.now (raws_view ts c.in-Ok.raws) c.args.walk.now c.raws_used.new.walk c.args.flaws.now.items c.move_all.new.flaws.items out c.in-Ok.ensures.view c.in-Ok.ensures.passes (c.in_ok-move_all-in-Ok.ensures.told ts);
}
