use Rattle.std.proofs.Common.{get_or}
use Rattle.go_operands.specs.EnvView.{table_of}
use Rattle.go_calls.specs.Words.{types_of}
use Rattle.go_define.specs.FreshView.{fresh_view, freshes_view}
use Rattle.go_define.proofs.AllLemmas.{depth_at, freshes_at, ids_kept, no_type, in_range, types_step, types_no_type}
use Rattle.go_define.proofs.define.all.type_each.Goals as goal

pub loop-t-preserved : goal.loop-t-preserved
loop-t-preserved c =
    let b = c.loop-t.walk in
    let d = c.type_one.new.walk in
    let t = table_of b.env in
    let u = table_of d.env in
    let x = c.in_ok-type_one-in-Some.ensures in
    let is = c.args.types.now in
    let i = c.loop-t.t-index in
    let fs = c.loop-t.freshes.items.items in
    let fs1 = c.next_fresh.new.freshes.items.items in
    record {
      depth = depth_at _ b d x.walk c.loop-t.invariant.depth;
      freshes = freshes_at t u fs1 x.table c.next_fresh.ensures.within;
      types = ids_kept t u is x.table c.loop-t.invariant.types;
      defines = types_step c.args.p _ c.args.walk.now b d fs fs1 (fresh_view (types_of b.env) c.in-Some.fresh) is i (get_or is i no_type) c.args.targets.now.items c.loop-t.targets.items c.type_one.new.targets.items c.args.flaws.now.items c.loop-t.flaws.items c.type_one.new.flaws.items c.args.out.now.items c.loop-t.out.items
          c.type_one.new.out.items c.loop-t-test.true (in_range is i no_type c.loop-t-test.true) c.in-Some.ensures.view c.loop-t.invariant.defines x.core x.targets x.told x.walk x.table;
    }

pub returns : goal.returns
returns c =
    let ts = types_of c.loop-t.walk.env in
    record {
      defines = types_no_type c.args.p (freshes_view ts c.loop-t.freshes) ts c.args.types.now c.loop-t.t-index _ c.args.walk.now c.loop-t.walk c.args.targets.now.items c.loop-t.targets.items c.args.flaws.now.items c.loop-t.flaws.items c.args.out.now.items c.loop-t.out.items c.loop-t-test.false c.loop-t.invariant.defines;
    }
