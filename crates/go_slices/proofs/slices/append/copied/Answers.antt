use Rattle.std.proofs.Common.{◌∙◌, ◌∷◌, [], ap}
use Rattle.go_type.specs.Levels.{tree_of}
use Rattle.go_type.specs.Table.{places, names}
use Rattle.go_core.specs.Layout.{shape_of}
use Rattle.go_core.specs.StepSlices.{copied}
use Rattle.go_core.specs.Memory as core
use Rattle.go_values.specs.ValuesSeen.{scalar_of, value_of}
use Rattle.go_values.specs.declared.values.scalar.Scalar.{Scalar}
use Rattle.go_values.proofs.ScalarLemmas.{slice_seen}
use Rattle.go_values.proofs.Steps.{goes}
use Rattle.go_slices.proofs.slices.append.copied.Goals as goal

pub returns-in-Slice : goal.returns-in-Slice
returns-in-Slice c =
    let w = c.args.c.now.table.now in
    let ts = places w in
    record {
      value = λ m.
          goes ts m c.copied_to.result _ _
          (ap (λ (x : Scalar). copied (shape_of (names w) (tree_of ts c.args.t)) (scalar_of ts x ∷ []) (value_of ts c.args.more.cells.now) c.args.more.count m) c.in-Slice.is
          ∙ ap (λ (x : core.Scalar). copied (shape_of (names w) (tree_of ts c.args.t)) (x ∷ []) (value_of ts c.args.more.cells.now) c.args.more.count m) (slice_seen ts c.in-Slice.base c.in-Slice.length c.in-Slice._capacity))
          (c.copied_to.ensures.value m c.in-Slice._capacity);
    }
