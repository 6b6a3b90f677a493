use Rattle.std.proofs.Common.{drop}
use Rattle.go_type.specs.Levels.{trees_of}
use Rattle.go_type.specs.Table.{places}
use Rattle.go_core.specs.CoreView.{program_view}
use Rattle.go_core.specs.TypeOf.{listed_types}
use Rattle.go_core.specs.Sound.{ArePrintable}
use Rattle.go_sound_nodes.proofs.targets.are_printable.Given as goal

abbrev pub invariant-loop-t : goal.invariant-loop-t
invariant-loop-t l =
    let ts = places l.p.types in
    ArePrintable (program_view l.p) (listed_types (trees_of ts (drop l.t-index l.types))) → ArePrintable (program_view l.p) (listed_types (trees_of ts l.types))
