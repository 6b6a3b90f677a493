use Rattle.std.proofs.Common.{◌≡◌, ◌++◌, drop, map}
use Rattle.go_type.specs.Table.{places, names}
use Rattle.go_core.specs.CoreView.{package_var_view}
use Rattle.go_core.specs.StepMemory.{global_zeros}
use Rattle.go_values.specs.ValuesSeen.{value_of}
use Rattle.go_state.proofs.start.globals.global_zeros.Given as goal

abbrev pub invariant-globals : goal.invariant-globals
invariant-globals l =
    let w = l.c.table.now in
    let all = map (package_var_view (places w)) l.globals in
    value_of (places w) l.xs.items ++ global_zeros (names w) (drop l.i all) ≡ global_zeros (names w) all
