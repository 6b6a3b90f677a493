use Rattle.go_calls.specs.Words.{types_of, names_of}
use Rattle.go_expr.specs.Raw.{raws_view}
use Rattle.go_assign.specs.SpecView.{spec_view}
use Rattle.go_body.proofs.VarLemmas.{each_does}
use Rattle.go_body.proofs.local_vars.valued.all_vars.Goals as goal

pub returns-in-Ok-stored : goal.returns-in-Ok-stored
returns-in-Ok-stored c =
    let a = c.args.walk.now in
    let ts = types_of a.env in
    record {
      does = each_does (names_of a.env) (spec_view ts c.args.s) c.args.names.now (raws_view ts c.args.raws) a c.every_value.new.walk c.args.flaws.now.items c.every_value.new.flaws.items c.args.out.now.items c.every_value.new.out.items c.stored.new.out.items c.every_value.new.targets.items c.every_value.new.values.items
          c.in-Ok.ensures.defines c.in-Ok-stored.ensures.core;
    }
