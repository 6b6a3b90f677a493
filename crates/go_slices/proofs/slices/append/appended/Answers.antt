use Rattle.std.proofs.Common.{◌∙◌, ◌∷◌, [], ap}
use Rattle.go_type.specs.Levels.{tree_of}
use Rattle.go_type.specs.Table.{places, names}
use Rattle.go_core.specs.Layout.{shape_of}
use Rattle.go_core.specs.StepSlices.{appended}
use Rattle.go_core.specs.Memory as core
use Rattle.go_values.specs.ValuesSeen.{scalar_of, value_of, memory_of}
use Rattle.go_values.specs.declared.values.scalar.Scalar.{Scalar}
use Rattle.go_slices.proofs.SlicesScalarLemmas.{nil_seen}
use Rattle.go_values.proofs.ScalarLemmas.{slice_seen}
use Rattle.go_values.proofs.Steps.{goes}
use Rattle.go_slices.proofs.slices.append.appended.Goals as goal

pub returns-in-Slice : goal.returns-in-Slice
returns-in-Slice c =
    let w = c.args.c.now.table.now in
    let ts = places w in
    let s = memory_of ts c.args.m.now in
    record {
      value =
          goes ts s c.appended_to.result _ _
          (ap (λ (x : Scalar). appended (shape_of (names w) (tree_of ts c.args.t)) c.args.wanted (scalar_of ts x ∷ []) (value_of ts c.args.more.cells.now) c.args.more.count s) c.in-Slice.is
          ∙ ap (λ (x : core.Scalar). appended (shape_of (names w) (tree_of ts c.args.t)) c.args.wanted (x ∷ []) (value_of ts c.args.more.cells.now) c.args.more.count s) (slice_seen ts c.in-Slice.base c.in-Slice.length c.in-Slice.capacity))
          (c.appended_to.ensures.value);
    }

pub returns-in-Nil : goal.returns-in-Nil
returns-in-Nil c =
    let w = c.args.c.now.table.now in
    let ts = places w in
    let s = memory_of ts c.args.m.now in
    record {
      value =
          goes ts s c.appended_to_nil.result _ _
          (ap (λ (x : Scalar). appended (shape_of (names w) (tree_of ts c.args.t)) c.args.wanted (scalar_of ts x ∷ []) (value_of ts c.args.more.cells.now) c.args.more.count s) c.in-Nil.is
          ∙ ap (λ (x : core.Scalar). appended (shape_of (names w) (tree_of ts c.args.t)) c.args.wanted (x ∷ []) (value_of ts c.args.more.cells.now) c.args.more.count s) (nil_seen ts))
          (c.appended_to_nil.ensures.value);
    }
