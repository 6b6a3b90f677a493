use Rattle.std.proofs.Common.{◌∙◌, ◌∷◌, [], sym, ap}
use Rattle.go_type.specs.Levels.{tree_of}
use Rattle.go_type.specs.Table.{places, names}
use Rattle.go_type.specs.Tree.{Ty, pointer}
use Rattle.go_core.specs.StepSlices.{sliced, array_sliced}
use Rattle.go_slices.specs.SlicesFound.{bounds_by}
use Rattle.go_core.specs.Memory as core
use Rattle.go_values.specs.ValuesSeen.{scalar_of, values_of}
use Rattle.go_values.specs.declared.values.scalar.Scalar.{Scalar}
use Rattle.go_values.proofs.ScalarLemmas.{pointer_seen}
use Rattle.go_values.proofs.Steps.{goes}
use Rattle.go_slices.proofs.slices.slicing.pointer_sliced.Goals as goal

pub returns-in-Pointer : goal.returns-in-Pointer
returns-in-Pointer c =
    let w = c.args.c.now.table.now in
    let ts = places w in
    record {
      value = λ m.
          goes ts m c.array_sliced.result _ _
          (ap (λ (x : Scalar). sliced (names w) (pointer (tree_of ts c.args.t)) (bounds_by c.args.written (values_of ts c.args.vs.now)) (scalar_of ts x ∷ []) m) c.in-Pointer.is
          ∙ ap (λ (x : core.Scalar). sliced (names w) (pointer (tree_of ts c.args.t)) (bounds_by c.args.written (values_of ts c.args.vs.now)) (x ∷ []) m) (pointer_seen ts c.in-Pointer.base)
          ∙ ap (λ (u : Ty). array_sliced (names w) u (bounds_by c.args.written (values_of ts c.args.vs.now)) c.in-Pointer.base m) (sym c.underlying.ensures.tree))
          (c.array_sliced.ensures.value m);
    }
