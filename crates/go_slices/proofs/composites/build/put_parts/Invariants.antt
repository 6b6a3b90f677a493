use Rattle.std.proofs.Common.{◌≡◌, drop}
use Rattle.go_type.specs.Levels.{tree_of}
use Rattle.go_type.specs.Table.{places, names}
use Rattle.go_core.specs.Layout.{shape_of}
use Rattle.go_core.specs.StepMemory.{with_elements, part_offset}
use Rattle.go_values.specs.ValuesSeen.{value_of, values_of}
use Rattle.go_slices.proofs.composites.build.put_parts.Given as goal

abbrev pub invariant-parts : goal.invariant-parts
invariant-parts l =
    let ts = places l.c.table.now in
    with_elements (part_offset (shape_of (names l.c.table.now) (tree_of ts l.t))) (drop l.i l.indexes) (drop l.i (values_of ts l.vs)) (value_of ts l.cells)
    ≡ with_elements (part_offset (shape_of (names l.c.table.now) (tree_of ts l.t))) l.indexes (values_of ts l.vs) (value_of ts l.fn.cells)
