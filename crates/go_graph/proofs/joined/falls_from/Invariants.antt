use Rattle.std.proofs.Common.{◌≡◌, ◌<◌, ◌≤◌, ℕ, Some, slice_get}
use Rattle.go_graph.specs.Joined.{number}
use Rattle.go_graph.proofs.joined.falls_from.Given as goal

abbrev pub invariant-loop-target : goal.invariant-loop-target
invariant-loop-target l = (k j : ℕ) → k < l.target-index → slice_get l.list k ≡ Some j → (j < l.count) × (number l.of j ≤ number l.of l.node)
