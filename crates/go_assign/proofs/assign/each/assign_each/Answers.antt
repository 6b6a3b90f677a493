use Rattle.go_operands.specs.EnvView.{table_of}
use Rattle.go_calls.specs.Words.{types_of, names_of}
use Rattle.go_expr.specs.Raw.{raws_view}
use Rattle.go_assign.specs.LeftView.{lefts_view}
use Rattle.go_assign.specs.Assigning.{paired}
use Rattle.go_assign.proofs.AssignLemmas.{each_adds}
use Rattle.go_assign.proofs.assign.each.assign_each.Goals as goal

pub returns-in-Ok-stored : goal.returns-in-Ok-stored
returns-in-Ok-stored c =
    let e = c.args.env.now in
    let ts = types_of e in
    record {
      adds = each_adds (table_of e) (paired (names_of e) (lefts_view ts c.args.lefts) (raws_view ts c.args.raws)) c.new-targets.result.items c.store_each.new.targets.items c.new-cores.result.items c.store_each.new.cores.items c.args.flaws.now.items c.store_each.new.flaws.items c.args.out.now.items c.stored.new.out.items
          c.new-targets.ensures.items c.new-cores.ensures.items c.in-Ok.ensures.stores c.in-Ok-stored.ensures.core;
    }
