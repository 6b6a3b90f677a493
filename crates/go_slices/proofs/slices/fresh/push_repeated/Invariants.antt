use Rattle.std.proofs.Common.{◌≡◌, ◌++◌, ◌-◌, List}
use Rattle.go_type.specs.Tree.{Ty}
use Rattle.go_core.specs.StepMemory.{repeated}
use Rattle.go_values.specs.ValuesSeen.{value_of}
use Rattle.go_slices.proofs.slices.fresh.push_repeated.Given as goal

abbrev pub invariant-copies : goal.invariant-copies
invariant-copies l =
    (ts : List Ty) → value_of ts l.cells.items ++ repeated (l.count - l._i) (value_of ts l.zeros) ≡ value_of ts l.fn.cells.items ++ repeated l.count (value_of ts l.zeros)
