use Rattle.std.proofs.Common.{◌≡◌, ◌++◌, drop, ℕ, List}
use Rattle.std.specs.Prelude.{option_map}
use Rattle.go_type.specs.Table.{places, names}
use Rattle.go_core.specs.Calls.{results_of}
use Rattle.go_core.specs.CoreTree.{CoreProgram}
use Rattle.go_core.specs.Memory.{Value}
use Rattle.go_values.specs.ValuesSeen.{values_of, memory_of}
use Rattle.go_state.specs.StateSeen.{places_of, vars_of}
use Rattle.go_state.proofs.bindings.results.results_of.Given as goal

abbrev pub invariant-each : goal.invariant-each
invariant-each l =
    let ts = places l.c.table.now in
    (p : CoreProgram) (g : ℕ) → p.names ≡ names l.c.table.now
    → option_map (λ (ys : List Value). values_of ts l.xs.items ++ ys) (results_of p g (drop l.i (vars_of ts l.vars)) (places_of l.at) (memory_of ts l.m))
    ≡ results_of p g (vars_of ts l.vars) (places_of l.at) (memory_of ts l.m)
