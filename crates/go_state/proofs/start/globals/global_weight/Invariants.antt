use Rattle.std.proofs.Common.{◌≡◌, ◌+◌, drop, map}
use Rattle.go_type.specs.Table.{places, names}
use Rattle.go_core.specs.CoreView.{package_var_view}
use Rattle.go_core.specs.StepMemory.{global_weight}
use Rattle.go_state.proofs.start.globals.global_weight.Given as goal

abbrev pub invariant-globals : goal.invariant-globals
invariant-globals l =
    let w = l.c.table.now in
    let all = map (package_var_view (places w)) l.globals in
    l.units + global_weight (names w) (drop l.i all) ≡ global_weight (names w) all
