use Rattle.std.proofs.Common.{◌<◌, ℕ}
use Rattle.go_graph.specs.Cycle.{lists}
use Rattle.go_graph.specs.Joined.{Joins}
use Rattle.go_graph.proofs.joined.are_joined.Given as goal

abbrev pub invariant-loop-node : goal.invariant-loop-node
invariant-loop-node l = (i : ℕ) → i < l.node → Joins (lists l.edges) l.all.of.items l.all.first.items l.all.met.items l.ways.far.items i
