use Rattle.std.proofs.Common.{◌≡◌, drop}
use Rattle.go_type.specs.Table.{places, names}
use Rattle.go_core.specs.Memory.{packed}
use Rattle.go_core.specs.Equality.{compare_all, taking}
use Rattle.go_values.specs.ValuesSeen.{value_of}
use Rattle.go_values.proofs.layouts.equality.+compare.Given as goal

abbrev pub invariant-compare_all-scalars : goal.invariant-compare_all-scalars
invariant-compare_all-scalars l =
    compare_all (names l.table) l.looked (packed (value_of (places l.table) l.xs)) (packed (value_of (places l.table) l.ys))
    ≡ taking l.units (compare_all (names l.table) (drop l.i l.looked) (packed (value_of (places l.table) (drop l.i l.xs))) (packed (value_of (places l.table) (drop l.i l.ys))))
