use Rattle.go_calls.specs.Words.{types_of}
use Rattle.go_expr.specs.Raw.{raws_view}
use Rattle.go_assign.specs.SpecView.{spec_view}
use Rattle.go_body.proofs.VarLemmas.{miscounted_does}
use Rattle.go_body.proofs.local_vars.specs.miscounted.Goals as goal

pub returns-in-Ok-zeros : goal.returns-in-Ok-zeros
returns-in-Ok-zeros c =
    let a = c.args.walk.now in
    let ts = types_of a.env in
    record {
      does = miscounted_does c.args.at c.first_at-first.result (spec_view ts c.args.s) c.args.names.now (raws_view ts c.args.raws) a c.zeros.new.walk c.args.flaws.now.items c.count_told.new.flaws.items c.zeros.new.flaws.items c.args.out.now.items c.zeros.new.out.items c.first_at-first.ensures.value (c.in-Ok.ensures.told ts) c.in-Ok-zeros.ensures.does;
    }
