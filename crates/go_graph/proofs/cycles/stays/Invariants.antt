use Rattle.std.proofs.Common.{◌≡◌, ◌<◌, ℕ, Some, slice_get}
use Rattle.std.specs.Prelude.{◌≢◌}
use Rattle.go_graph.specs.Joined.{number}
use Rattle.go_graph.proofs.cycles.stays.Given as goal

abbrev pub invariant-loop-target : goal.invariant-loop-target
invariant-loop-target l = (k j : ℕ) → k < l.target-index → slice_get l.list k ≡ Some j → number l.of j ≢ number l.of l.node
