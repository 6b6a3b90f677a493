use Rattle.std.proofs.Common.{◌≡◌, drop, ℕ, List}
use Rattle.go_type.specs.Tree.{Ty}
use Rattle.go_core.specs.Calls.{with_stored}
use Rattle.go_core.specs.CoreTree.{CoreProgram}
use Rattle.go_values.specs.ValuesSeen.{values_of, memory_of}
use Rattle.go_state.specs.StateSeen.{places_of, vars_of}
use Rattle.go_state.proofs.bindings.results.store.Given as goal

abbrev pub invariant-each : goal.invariant-each
invariant-each l =
    (ts : List Ty) (p : CoreProgram) (g : ℕ)
    → with_stored p g (drop l.i (vars_of ts l.vars)) (drop l.i (values_of ts l.xs)) (places_of l.at) (memory_of ts l.m)
    ≡ with_stored p g (vars_of ts l.vars) (values_of ts l.xs) (places_of l.at) (memory_of ts l.fn.m)
