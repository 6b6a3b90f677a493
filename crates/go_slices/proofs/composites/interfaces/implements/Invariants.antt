use Rattle.std.proofs.Common.{◌≡◌, drop}
use Rattle.go_type.specs.Levels.{tree_of, specs_of}
use Rattle.go_type.specs.Table.{places}
use Rattle.go_core.specs.CoreView.{program_view}
use Rattle.go_core.specs.StepInterfaces.{implements}
use Rattle.go_slices.proofs.composites.interfaces.implements.Given as goal

abbrev pub invariant-specs : goal.invariant-specs
invariant-specs l =
    let ts = places l.p.types in
    implements (program_view l.p) (tree_of ts l.t) (specs_of ts (drop l.i l.specs)) ≡ implements (program_view l.p) (tree_of ts l.t) (specs_of ts l.specs)
