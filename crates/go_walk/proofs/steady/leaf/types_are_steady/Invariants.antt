use Rattle.std.proofs.Common.{drop}
use Rattle.go_walk.specs.Steady.{AreSteadyTypes}
use Rattle.go_walk.proofs.steady.leaf.types_are_steady.Given as goal

-- where those that are left are, all are
abbrev pub invariant-loop-t : goal.invariant-loop-t
invariant-loop-t l = AreSteadyTypes l.count (drop l.t-index l.types) → AreSteadyTypes l.count l.types
