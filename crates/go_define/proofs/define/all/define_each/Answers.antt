use Rattle.std.proofs.Common.{map}
use Rattle.go_core.specs.CoreView.{expr_view}
use Rattle.go_operands.specs.EnvView.{table_of}
use Rattle.go_calls.specs.Words.{types_of}
use Rattle.go_expr.specs.Raw.{raw_view}
use Rattle.go_define.specs.FreshView.{fresh_view}
use Rattle.go_define.proofs.AllLemmas.{depth_at, freshes_at, raws_at, keeps_at, each_step, values_step}
use Rattle.go_define.proofs.define.all.define_each.Goals as goal

pub loop-fresh-preserved : goal.loop-fresh-preserved
loop-fresh-preserved c =
    let b = c.loop-fresh.walk in
    let d = c.define_one.new.walk in
    let t = table_of b.env in
    let u = table_of d.env in
    let x = c.in_ok-define_one-in-Some-next_raw.ensures in
    let s = fresh_view (types_of b.env) c.in-Some.fresh in
    let r = raw_view (types_of b.env) c.in-Some-next_raw.raw in
    let fs = c.loop-fresh.freshes.items.items in
    let fs1 = c.next_fresh.new.freshes.items.items in
    let rs = c.loop-fresh.raws.items.items in
    let rs1 = c.next_raw.new.raws.items.items in
    record {
      depth = depth_at _ b d x.walk c.loop-fresh.invariant.depth;
      freshes = freshes_at t u fs1 x.table c.next_fresh.ensures.within;
      raws = raws_at t u rs1 x.table c.next_raw.ensures.within;
      defines = each_step _ c.args.walk.now b d fs fs1 rs rs1 s r c.args.targets.now.items c.loop-fresh.targets.items c.define_one.new.targets.items c.args.flaws.now.items c.loop-fresh.flaws.items c.define_one.new.flaws.items c.args.out.now.items c.loop-fresh.out.items c.define_one.new.out.items
          c.in-Some.ensures.view c.in-Some-next_raw.ensures.view c.loop-fresh.invariant.defines x.core x.targets x.told x.walk x.table;
      values = λ ts k.
          let n = keeps_at t u ts x.table k in
          values_step t u fs fs1 rs rs1 s r (map (expr_view ts) c.loop-fresh.cores.items) (map (expr_view ts) c.define_one.new.cores.items) _ c.in-Some.ensures.view c.in-Some-next_raw.ensures.view x.table (x.values ts n) (c.loop-fresh.invariant.values ts n);
    }
