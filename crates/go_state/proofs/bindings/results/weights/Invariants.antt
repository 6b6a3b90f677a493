use Rattle.std.proofs.Common.{◌≡◌, ◌+◌, drop, ℕ}
use Rattle.go_type.specs.Table.{places, names}
use Rattle.go_core.specs.Calls.{weights}
use Rattle.go_core.specs.CoreTree.{CoreProgram}
use Rattle.go_state.specs.StateSeen.{vars_of}
use Rattle.go_state.proofs.bindings.results.weights.Given as goal

abbrev pub invariant-each : goal.invariant-each
invariant-each l =
    (p : CoreProgram) (g : ℕ) → p.names ≡ names l.c.table.now
    → l.units + weights p g (drop l.i (vars_of (places l.c.table.now) l.vars)) ≡ weights p g (vars_of (places l.c.table.now) l.vars)
