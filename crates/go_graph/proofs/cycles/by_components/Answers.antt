use Rattle.std.proofs.Common.{◌∙◌, List, Bool, ap, sym, subst, length, get_or, false}
use Rattle.std.specs.Prelude.{IsTrue, ◌↔◌}
use Rattle.go_graph.specs.Cycle.{lists}
use Rattle.go_graph.specs.Joined.{Stays}
use Rattle.go_graph.proofs.ListLemmas.{list_at}
use Rattle.go_graph.proofs.StaysLemmas.{stays_is, length_more, more}
use Rattle.go_graph.proofs.cycles.by_components.Goals as goal

pub loop-node-preserved : goal.loop-node-preserved
loop-node-preserved c =
    let edges = c.args.edges.now in
    let of = c.args.of.now in
    let node = c.loop-node.node in
    let old = c.loop-node.lasting.items in
    let own = stays_is (lists edges) of node c.as_slice.result.now (list_at edges node c.index-edges-node.result c.loop-node-test.true c.index-edges-node.is ∙ sym c.as_slice.ensures.value) c.stays-is_lasting.result c.stays-is_lasting.ensures.value in
    let all = more (Stays (lists edges) of) old c.stays-is_lasting.result node c.loop-node.invariant.0 c.loop-node.invariant.1 own in (
      ap length c.in_ok-push.ensures.items ∙ length_more old c.stays-is_lasting.result node c.loop-node.invariant.0,
      λ i h. subst (λ (bs : List Bool). IsTrue (get_or bs i false) ↔ Stays (lists edges) of i) (sym c.in_ok-push.ensures.items) (all i h),
    )
