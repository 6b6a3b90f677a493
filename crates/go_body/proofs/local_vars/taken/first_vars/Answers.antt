use Rattle.go_type.specs.Levels.{trees_of}
use Rattle.go_calls.specs.Words.{types_of}
use Rattle.go_expr.specs.Raw.{raw_view, raws_view}
use Rattle.go_assign.specs.SpecView.{spec_view}
use Rattle.go_body.proofs.VarLemmas.{first_some, first_none}
use Rattle.go_body.proofs.local_vars.taken.first_vars.Goals as goal

pub returns-in-Ok : goal.returns-in-Ok
returns-in-Ok c =
    let a = c.args.walk.now in
    let ts = types_of a.env in
    record {
      does = first_some (spec_view ts c.args.s) c.args.names.now (trees_of ts c.args.types.now) (raw_view ts c.in-Some.raw) (raws_view ts c.next_raw.new.raws) (raws_view ts c.args.raws) a c.whole_vars.new.walk c.args.flaws.now.items c.whole_vars.new.flaws.items c.args.out.now.items c.whole_vars.new.out.items
          c.in-Some.ensures.view c.in-Ok.ensures.does;
    }

pub returns-in-None : goal.returns-in-None
returns-in-None c =
    let a = c.args.walk.now in
    let ts = types_of a.env in
    record { does = first_none (spec_view ts c.args.s) c.args.names.now (trees_of ts c.args.types.now) (raws_view ts c.args.raws) a c.args.flaws.now.items c.args.out.now.items c.in-None.ensures.view }
