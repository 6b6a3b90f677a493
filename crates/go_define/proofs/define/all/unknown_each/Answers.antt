use Rattle.std.proofs.Common.{◌∙◌, map}
use Rattle.go_operands.specs.AnswerView.{flaw_view}
use Rattle.go_operands.specs.EnvView.{table_of}
use Rattle.go_calls.specs.Words.{types_of}
use Rattle.go_define.specs.FreshView.{fresh_view}
use Rattle.go_define.proofs.AllLemmas.{depth_at, freshes_at, keeps_at, unknowns_step, old_step}
use Rattle.go_define.proofs.define.all.unknown_each.Goals as goal

pub loop-fresh-preserved : goal.loop-fresh-preserved
loop-fresh-preserved c =
    let b = c.loop-fresh.walk in
    let d = c.unknown_one.new.walk in
    let t = table_of b.env in
    let u = table_of d.env in
    let x = c.in_ok-unknown_one.ensures in
    let fs = c.loop-fresh.freshes.items.items in
    let fs1 = c.next_fresh.new.freshes.items.items in
    record {
      opened = depth_at _ b d x.walk c.loop-fresh.invariant.opened;
      freshes = freshes_at t u fs1 x.table c.next_fresh.ensures.within;
      walk = λ ts k. unknowns_step b d fs fs1 (fresh_view (types_of b.env) c.in-Some.fresh) ts _ c.in-Some.ensures.view (x.walk.walk ts k) x.table (c.loop-fresh.invariant.walk ts (keeps_at t u ts x.table k));
      told = old_step b d fs fs1 (fresh_view (types_of b.env) c.in-Some.fresh) (map flaw_view c.loop-fresh.flaws.items) (map flaw_view c.fresh_told.new.flaws.items) _ c.in-Some.ensures.view x.table (c.in_ok-fresh_told.ensures.told (types_of b.env)) c.loop-fresh.invariant.told;
      same_depth = x.walk.depth ∙ c.loop-fresh.invariant.same_depth;
      table = x.table ∙ c.loop-fresh.invariant.table;
    }
