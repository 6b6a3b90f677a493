use Rattle.std.proofs.Common.{arith, ◌≡◌, ◌≤◌, ◌∙◌, ℕ, List, [], Some, ap, sym, subst, refl, get_or, slice_get, inl, inr}
use Rattle.go_graph.specs.Cycle.{lists}
use Rattle.go_graph.specs.Joined.{number}
use Rattle.go_graph.proofs.ListLemmas.{before_next, list_at, length_lists}
use Rattle.go_graph.proofs.CycleLemmas.{in_graph}
use Rattle.go_graph.proofs.joined.falls.Goals as goal

pub loop-node-preserved : goal.loop-node-preserved
loop-node-preserved c = λ i j h e. elim (before_next i c.loop-node.node h) [
  | inl m ↦ c.loop-node.invariant i j m e
  | inr m ↦
      let edges = c.args.edges.now in
      let list = ap (λ (n : ℕ). get_or (lists edges) n []) m ∙ list_at edges c.loop-node.node c.index-edges-node.result c.loop-node-test.true c.index-edges-node.is ∙ sym c.as_slice.ensures.value in
      let r = c.if-not-falls_from.ensures.value refl e.0 j (subst (λ (xs : List ℕ). slice_get xs e.0 ≡ Some j) list e.1) in
      (omega (arith, r.0, length_lists edges), subst (λ (n : ℕ). number c.args.of.now j ≤ number c.args.of.now n) (sym m) r.1)
]

pub returns : goal.returns
returns c = record {
  value = λ t i j e. c.loop-node.invariant i j (omega (arith, in_graph (lists c.args.edges.now) i j e, length_lists c.args.edges.now, c.loop-node-test.false)) e;
}
