use Rattle.std.proofs.Common.{drop, map}
use Rattle.std.specs.List.{AllByRecursion}
use Rattle.go_type.specs.Levels.{tree_of}
use Rattle.go_type.specs.Table.{places, names}
use Rattle.go_type.specs.MethodList.{IsMethodOf, spec_of}
use Rattle.go_core.specs.CoreView.{program_view}
use Rattle.go_is_sound.specs.Rows.{AreDeclared}
use Rattle.go_is_sound.proofs.rows.mark_declared.Given as goal

abbrev pub invariant-loop-spec : goal.invariant-loop-spec
invariant-loop-spec l =
    let ts = places l.p.types in
    AllByRecursion (IsMethodOf (names l.p.types) (tree_of ts l.t)) (map (spec_of ts) l.set)
    → AreDeclared (program_view l.p) l.fn.done.items → AllByRecursion (IsMethodOf (names l.p.types) (tree_of ts l.t)) (map (spec_of ts) (drop l.spec-index l.set)) × AreDeclared (program_view l.p) l.done.items
