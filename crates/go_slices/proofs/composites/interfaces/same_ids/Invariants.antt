use Rattle.std.proofs.Common.{◌≡◌, drop}
use Rattle.go_type.specs.Levels.{trees_of}
use Rattle.go_type.specs.Table.{places}
use Rattle.go_core.specs.SameType.{same_types}
use Rattle.go_slices.proofs.composites.interfaces.same_ids.Given as goal

abbrev pub invariant-types : goal.invariant-types
invariant-types l =
    let ts = places l.p.types in
    same_types (trees_of ts (drop l.i l.xs)) (trees_of ts (drop l.i l.ys)) ≡ same_types (trees_of ts l.xs) (trees_of ts l.ys)
