use Rattle.std.proofs.Common.{◌≡◌, ◌+◌, ◌-◌, drop, map}
use Rattle.go_type.specs.Table.{places, names}
use Rattle.go_core.specs.CoreView.{package_var_view}
use Rattle.go_core.specs.StepMemory.{global_base}
use Rattle.go_slices.proofs.composites.globals.global_base.Given as goal

abbrev pub invariant-globals : goal.invariant-globals
invariant-globals l =
    let w = l.c.table.now in
    let all = map (package_var_view (places w)) l.globals in
    l.base + global_base (names w) (drop l.i all) (l.number - l.i) ≡ global_base (names w) all l.number
