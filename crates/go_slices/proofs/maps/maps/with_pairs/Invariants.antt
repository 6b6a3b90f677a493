use Rattle.std.proofs.Common.{◌≡◌, ◌*◌, drop}
use Rattle.go_type.specs.Levels.{tree_of}
use Rattle.go_type.specs.Table.{places, names}
use Rattle.go_core.specs.StepMaps.{with_pairs}
use Rattle.go_values.specs.ValuesSeen.{values_of, map_of}
use Rattle.go_slices.proofs.maps.maps.with_pairs.Given as goal

abbrev pub invariant-pairs : goal.invariant-pairs
invariant-pairs l =
    let w = l.c.table.now in
    let ts = places w in
    with_pairs (names w) (tree_of ts l.key_type) (values_of ts (drop (2 * l.i) l.vs)) (map_of ts l.state)
    ≡ with_pairs (names w) (tree_of ts l.key_type) (values_of ts l.vs) (map_of ts l.fn.state)
