use Rattle.go_calls.specs.Words.{types_of}
use Rattle.go_expr.specs.Raw.{raws_view}
use Rattle.go_define.proofs.ReturnLemmas.{returned_does}
use Rattle.go_define.proofs.simple.returned.with_values.Goals as goal

pub returns-in_ok-given_back-in-Ok : goal.returns-in_ok-given_back-in-Ok
returns-in_ok-given_back-in-Ok c = record {
  does =
      returned_does c.args.at c.args.results.now c.args.named c.args.ys.now (raws_view (types_of c.raws_used.new.walk.env) c.in-Ok.raws) c.args.walk.now c.raws_used.new.walk c.args.flaws.now.items c.given_back.new.flaws.items c.args.out.now.items c.given_back.new.out.items
      c.requires.some c.requires.results c.in-Ok.ensures.view c.in-Ok.ensures.passes c.in_ok-given_back-in-Ok.ensures.adds;
}
