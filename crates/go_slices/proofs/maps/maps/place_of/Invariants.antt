use Rattle.std.proofs.Common.{map}
use Rattle.go_type.specs.Levels.{tree_of}
use Rattle.go_type.specs.Table.{places, names}
use Rattle.go_values.specs.ValuesSeen.{value_of, entry_of}
use Rattle.go_slices.proofs.MapLemmas.{Passed}
use Rattle.go_slices.proofs.maps.maps.place_of.Given as goal

abbrev pub invariant-entries : goal.invariant-entries
invariant-entries l =
    let w = l.c.table.now in
    let ts = places w in
    Passed (names w) (tree_of ts l.key_type) (value_of ts l.key) (map (entry_of ts) l.entries) l.i
