use Rattle.go_operands.specs.EnvView.{table_of}
use Rattle.go_calls.specs.Words.{types_of, names_of}
use Rattle.go_expr.specs.Raw.{raw_view, raws_view}
use Rattle.go_assign.specs.LeftView.{left_view, lefts_view}
use Rattle.go_assign.proofs.AssignLemmas.{stores_step}
use Rattle.go_assign.proofs.assign.each.store_each.Goals as goal

pub loop-left-preserved : goal.loop-left-preserved
loop-left-preserved c =
    let e = c.args.env.now in
    let ts = types_of e in
    let x = c.in_ok-store_one-in-Some-next_raw.ensures in
    record {
      lefts = c.next_left.ensures.within;
      raws = c.next_raw.ensures.within;
      stores = stores_step (table_of e) (names_of e) (lefts_view ts c.loop-left.lefts) (lefts_view ts c.next_left.new.lefts) (raws_view ts c.loop-left.raws) (raws_view ts c.next_raw.new.raws) (left_view ts c.in-Some.left) (raw_view ts c.in-Some-next_raw.raw) _
          c.args.targets.now.items c.loop-left.targets.items c.store_one.new.targets.items c.args.cores.now.items c.loop-left.cores.items c.store_one.new.cores.items c.args.flaws.now.items c.loop-left.flaws.items c.store_one.new.flaws.items
          c.in-Some.ensures.view c.in-Some-next_raw.ensures.view c.loop-left.invariant.stores x.targets x.values x.told;
    }
