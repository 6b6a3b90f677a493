use Rattle.std.proofs.Common.{◌≡◌, drop}
use Rattle.go_type.specs.Table.{places, names}
use Rattle.go_core.specs.Calls.{with_zeros}
use Rattle.go_state.specs.StateSeen.{vars_of}
use Rattle.go_state.specs.Bound.{bindings_of}
use Rattle.go_state.proofs.bindings.bind.bind_zeros.Given as goal

abbrev pub invariant-each : goal.invariant-each
invariant-each l =
    let w = l.c.table.now in
    let ts = places w in
    with_zeros (names w) (drop l.i (vars_of ts l.vars)) (bindings_of ts l.at.items l.m l.units)
    ≡ with_zeros (names w) (vars_of ts l.vars) (bindings_of ts l.fn.at.items l.fn.m l.before)
