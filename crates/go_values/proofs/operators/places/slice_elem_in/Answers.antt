use Rattle.std.proofs.Common.{◌∙◌, ◌∷◌, [], ap}
use Rattle.std.specs.Int.{w128}
use Rattle.std.specs.Int.RustNames.{FitsSigned}
use Rattle.std.proofs.lemmas.Int.{to_z-of_z}
use Rattle.go_type.specs.Levels.{tree_of}
use Rattle.go_type.specs.Table.{places, names}
use Rattle.go_core.specs.Layout.{shape_of, size}
use Rattle.go_core.specs.Memory as core
use Rattle.go_core.specs.StepMemory.{slice_elem_at}
use Rattle.go_values.specs.ValuesSeen.{scalar_of}
use Rattle.go_values.specs.declared.values.scalar.Scalar.{Scalar}
use Rattle.go_values.proofs.ScalarLemmas.{slice_seen}
use Rattle.go_values.proofs.Steps.{goes}
use Rattle.go_values.proofs.operators.places.slice_elem_in.Goals as goal

pub returns-in-Slice : goal.returns-in-Slice
returns-in-Slice c =
    let f : FitsSigned w128 c.args.index = c.ranges.index in
    let v = simp to_z-of_z at c.element_at.ensures.value in
    let w = c.args.c.now.table.now in
    let ts = places w in
    let one = size (shape_of (names w) (tree_of ts c.args.t)) in
    record {
      value = λ m.
          goes ts m c.element_at.result _ _
          (ap (λ (x : Scalar). slice_elem_at one (scalar_of ts x ∷ []) c.args.index m) c.in-Slice.is
          ∙ ap (λ (x : core.Scalar). slice_elem_at one (x ∷ []) c.args.index m) (slice_seen ts c.in-Slice.base c.in-Slice.length _))
          (v m);
    }
