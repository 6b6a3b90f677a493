use Rattle.std.proofs.Common.{◌≡◌, ◌+◌, List, drop}
use Rattle.go_type.specs.Tree.{Ty}
use Rattle.go_core.specs.Memory.{written}
use Rattle.go_values.specs.ValuesSeen.{value_of}
use Rattle.go_values.proofs.values.memory.write_cells.Given as goal

abbrev pub invariant-scalars : goal.invariant-scalars
invariant-scalars l =
    (ts : List Ty) → written (value_of ts l.cells) (l.base + l.i) (value_of ts (drop l.i l.xs)) ≡ written (value_of ts l.fn.cells) l.base (value_of ts l.xs)
