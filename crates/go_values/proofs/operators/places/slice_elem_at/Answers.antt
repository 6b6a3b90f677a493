use Rattle.std.proofs.Common.{sym, subst, List}
use Rattle.std.specs.Int.{w128}
use Rattle.std.specs.Int.RustNames.{FitsSigned}
use Rattle.std.proofs.lemmas.Int.{to_z-of_z}
use Rattle.go_type.specs.Levels.{tree_of}
use Rattle.go_type.specs.Table.{places, names}
use Rattle.go_core.specs.Layout.{shape_of, size}
use Rattle.go_core.specs.StepMemory.{slice_elem_at}
use Rattle.go_values.specs.ValuesSeen.{value_of}
use Rattle.go_values.specs.declared.values.scalar.Scalar.{Scalar}
use Rattle.go_values.specs.OperatorsSeen.{Does}
use Rattle.go_values.proofs.Only.{only}
use Rattle.go_values.proofs.operators.places.slice_elem_at.Goals as goal

pub returns-in-len1 : goal.returns-in-len1
returns-in-len1 c =
    let e = only c.args.x.now c.x-item.result c.in-len1.len_at_least c.in-len1.len_below c.x-item.is in
    let f : FitsSigned w128 c.args.index = c.ranges.index in
    let v = simp to_z-of_z at c.slice_elem_in.ensures.value in
    let w = c.args.c.now.table.now in
    let ts = places w in
    record {
      value = λ m. subst (λ (xs : List Scalar). Does ts m c.slice_elem_in.result (slice_elem_at (size (shape_of (names w) (tree_of ts c.args.t))) (value_of ts xs) c.args.index m)) (sym e) (v m);
    }
