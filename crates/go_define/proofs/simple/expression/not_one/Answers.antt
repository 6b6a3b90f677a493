use Rattle.go_calls.specs.Words.{types_of}
use Rattle.go_expr.specs.Raw.{raws_view}
use Rattle.go_define.proofs.DoesLemmas.{not_one_does}
use Rattle.go_define.proofs.simple.expression.not_one.Goals as goal

pub returns-in_ok-fault_where_typed-in-Ok : goal.returns-in_ok-fault_where_typed-in-Ok
returns-in_ok-fault_where_typed-in-Ok c = record {
  does = λ out.
      let ts = types_of c.raws_used.new.walk.env in
      not_one_does c.args.at c.args.xs.now (raws_view ts c.in-Ok.raws) c.args.walk.now c.raws_used.new.walk c.args.flaws.now.items c.fault_where_typed.new.flaws.items out c.requires.other c.in-Ok.ensures.view c.in-Ok.ensures.passes (c.in_ok-fault_where_typed-in-Ok.ensures.told ts);
}
