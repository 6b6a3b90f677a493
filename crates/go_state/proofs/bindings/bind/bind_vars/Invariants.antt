use Rattle.std.proofs.Common.{◌≡◌, drop}
use Rattle.go_type.specs.Table.{places, names}
use Rattle.go_core.specs.Calls.{with_vars}
use Rattle.go_values.specs.ValuesSeen.{values_of}
use Rattle.go_state.specs.StateSeen.{vars_of}
use Rattle.go_state.specs.Bound.{bindings_of}
use Rattle.go_state.proofs.bindings.bind.bind_vars.Given as goal

abbrev pub invariant-each : goal.invariant-each
invariant-each l =
    let w = l.c.table.now in
    let ts = places w in
    with_vars (names w) (drop l.i (vars_of ts l.vars)) (drop l.i (values_of ts l.xs)) (bindings_of ts l.at.items l.m l.units)
    ≡ with_vars (names w) (vars_of ts l.vars) (values_of ts l.xs) (bindings_of ts l.fn.at.items l.fn.m 0)
