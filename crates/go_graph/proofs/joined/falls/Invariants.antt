use Rattle.std.proofs.Common.{◌<◌, ◌≤◌, ℕ, length}
use Rattle.go_graph.specs.Cycle.{lists, Edge}
use Rattle.go_graph.specs.Joined.{number}
use Rattle.go_graph.proofs.joined.falls.Given as goal

abbrev pub invariant-loop-node : goal.invariant-loop-node
invariant-loop-node l = (i j : ℕ) → i < l.node → Edge (lists l.edges) i j → (j < length (lists l.edges)) × (number l.of j ≤ number l.of i)
