use Rattle.std.proofs.Common.{drop}
use Rattle.go_walk.specs.Steady.{AreSteady}
use Rattle.go_walk.proofs.steady.expr.+steady.Given as goal

-- where those that are left are, all are
abbrev pub invariant-are_steady-loop-e : goal.invariant-are_steady-loop-e
invariant-are_steady-loop-e l = AreSteady l.count (drop l.e-index l.es) → AreSteady l.count l.es
