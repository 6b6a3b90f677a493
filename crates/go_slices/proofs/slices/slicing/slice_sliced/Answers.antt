use Rattle.std.proofs.Common.{◌∙◌, ◌∷◌, [], ap}
use Rattle.go_type.specs.Levels.{tree_of}
use Rattle.go_type.specs.Table.{places, names}
use Rattle.go_type.specs.Tree.{slice}
use Rattle.go_core.specs.StepSlices.{sliced}
use Rattle.go_slices.specs.SlicesFound.{bounds_by}
use Rattle.go_core.specs.Memory as core
use Rattle.go_values.specs.ValuesSeen.{scalar_of, values_of}
use Rattle.go_values.specs.declared.values.scalar.Scalar.{Scalar}
use Rattle.go_slices.proofs.SlicesScalarLemmas.{nil_seen}
use Rattle.go_values.proofs.ScalarLemmas.{slice_seen}
use Rattle.go_values.proofs.Steps.{goes}
use Rattle.go_slices.proofs.slices.slicing.slice_sliced.Goals as goal

pub returns-in-Slice : goal.returns-in-Slice
returns-in-Slice c =
    let w = c.args.c.now.table.now in
    let ts = places w in
    record {
      value = λ m.
          goes ts m c.elements_sliced.result _ _
          (ap (λ (x : Scalar). sliced (names w) (slice (tree_of ts c.args.t)) (bounds_by c.args.written (values_of ts c.args.vs.now)) (scalar_of ts x ∷ []) m) c.in-Slice.is
          ∙ ap (λ (x : core.Scalar). sliced (names w) (slice (tree_of ts c.args.t)) (bounds_by c.args.written (values_of ts c.args.vs.now)) (x ∷ []) m) (slice_seen ts c.in-Slice.base c.in-Slice.length c.in-Slice.capacity))
          (c.elements_sliced.ensures.value m);
    }

pub returns-in-Nil : goal.returns-in-Nil
returns-in-Nil c =
    let w = c.args.c.now.table.now in
    let ts = places w in
    record {
      value = λ m.
          goes ts m c.nil_sliced.result _ _
          (ap (λ (x : Scalar). sliced (names w) (slice (tree_of ts c.args.t)) (bounds_by c.args.written (values_of ts c.args.vs.now)) (scalar_of ts x ∷ []) m) c.in-Nil.is
          ∙ ap (λ (x : core.Scalar). sliced (names w) (slice (tree_of ts c.args.t)) (bounds_by c.args.written (values_of ts c.args.vs.now)) (x ∷ []) m) (nil_seen ts))
          (c.nil_sliced.ensures.value ts (names w) (tree_of ts c.args.t) m);
    }
