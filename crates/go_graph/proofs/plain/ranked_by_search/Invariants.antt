use Rattle.std.proofs.Common.{◌≡◌, ◌<◌, ℕ, length, get_or, false}
use Rattle.std.specs.Prelude.{IsTrue, ◌↔◌}
use Rattle.go_graph.specs.Cycle.{lists, IsOnCycle}
use Rattle.go_graph.proofs.RankLemmas.{IsRank}
use Rattle.go_graph.proofs.plain.ranked_by_search.Given as goal

abbrev pub invariant-loop-node : goal.invariant-loop-node
invariant-loop-node l = record {
  told : length l.is_lasting.items ≡ l.node;
  numbered : length l.numbers.items ≡ l.node;
  exact : (i : ℕ) → i < l.node → (IsTrue (get_or l.is_lasting.items i false) ↔ IsOnCycle (lists l.edges) i);
  ranks : (i : ℕ) → i < l.node → IsRank (lists l.edges) i (get_or l.numbers.items i 0);
}
