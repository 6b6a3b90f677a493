use Rattle.std.proofs.Common.{◌≡◌, ◌<◌, ℕ, length, get_or, false}
use Rattle.std.specs.Prelude.{IsTrue, ◌↔◌}
use Rattle.go_graph.specs.Cycle.{lists}
use Rattle.go_graph.specs.Joined.{Stays}
use Rattle.go_graph.proofs.cycles.by_components.Given as goal

abbrev pub invariant-loop-node : goal.invariant-loop-node
invariant-loop-node l = (length l.lasting.items ≡ l.node) × ((i : ℕ) → i < l.node → (IsTrue (get_or l.lasting.items i false) ↔ Stays (lists l.edges) l.of i))
