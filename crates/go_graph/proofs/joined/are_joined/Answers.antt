use Rattle.std.proofs.Common.{sym, subst, refl, inl, inr}
use Rattle.go_graph.specs.Cycle.{lists}
use Rattle.go_graph.specs.Joined.{Joins}
use Rattle.go_graph.proofs.ListLemmas.{before_next}
use Rattle.go_graph.proofs.joined.are_joined.Goals as goal

pub loop-node-preserved : goal.loop-node-preserved
loop-node-preserved c = λ i h. elim (before_next i c.loop-node.node h) [
  | inl m ↦ c.loop-node.invariant i m
  | inr m ↦
      subst (Joins (lists c.args.edges.now) c.args.all.now.of.items c.args.all.now.first.items c.args.all.now.met.items c.args.ways.now.far.items) (sym m) (c.if-not-is_joined.ensures.value refl)
]
