use Rattle.go_type.specs.Levels.{trees_of}
use Rattle.go_calls.specs.Words.{types_of}
use Rattle.go_assign.specs.SpecView.{spec_view}
use Rattle.go_body.proofs.VarLemmas.{whole_does}
use Rattle.go_body.proofs.local_vars.taken.whole_vars.Goals as goal

pub returns-in-Ok-one_stored : goal.returns-in-Ok-one_stored
returns-in-Ok-one_stored c =
    let a = c.args.walk.now in
    let ts = types_of a.env in
    record {
      does = whole_does (spec_view ts c.args.s) c.args.names.now (trees_of ts c.args.types.now) c.args.raw a c.each_taken.new.walk c.args.flaws.now.items c.each_taken.new.flaws.items c.args.out.now.items c.each_taken.new.out.items c.one_stored.new.out.items c.each_taken.new.targets.items c.in-Ok.ensures.defines
          c.in-Ok-one_stored.ensures.core;
    }
