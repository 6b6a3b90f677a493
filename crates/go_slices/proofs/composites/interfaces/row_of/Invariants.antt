use Rattle.std.proofs.Common.{◌≡◌, drop, map}
use Rattle.go_type.specs.Levels.{tree_of}
use Rattle.go_type.specs.Table.{places}
use Rattle.go_core.specs.CoreTree.{MethodName}
use Rattle.go_core.specs.CoreView.{method_row_view}
use Rattle.go_core.specs.StepInterfaces.{row_from}
use Rattle.go_slices.proofs.composites.interfaces.row_of.Given as goal

abbrev pub invariant-rows : goal.invariant-rows
invariant-rows l =
    let ts = places l.p.types in
    let n : MethodName = record { type_ = tree_of ts l.t; name = l.name; package_ = l.«package» } in
    let all = map (method_row_view ts) l.p.methods.items.items in
    row_from l.i n (drop l.i all) ≡ row_from 0 n all
