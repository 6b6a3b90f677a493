use Rattle.std.proofs.Common.{◌∙◌, ◌∷◌, [], ap}
use Rattle.go_type.specs.Tree.{str}
use Rattle.go_core.specs.StepSlices.{sliced}
use Rattle.go_slices.specs.SlicesFound.{bounds_by}
use Rattle.go_core.specs.Memory as core
use Rattle.go_values.specs.ValuesSeen.{scalar_of, values_of}
use Rattle.go_values.specs.declared.values.scalar.Scalar.{Scalar}
use Rattle.go_slices.proofs.SlicesScalarLemmas.{text_seen}
use Rattle.go_values.proofs.Steps.{goes}
use Rattle.go_slices.proofs.slices.slicing.text_sliced.Goals as goal

pub returns-in-Text : goal.returns-in-Text
returns-in-Text c = record {
  value = λ ts ns m.
      goes ts m c.bytes_sliced.result _ _
      (ap (λ (x : Scalar). sliced ns str (bounds_by c.args.written (values_of ts c.args.vs.now)) (scalar_of ts x ∷ []) m) c.in-Text.is
      ∙ ap (λ (x : core.Scalar). sliced ns str (bounds_by c.args.written (values_of ts c.args.vs.now)) (x ∷ []) m) (text_seen ts c.in-Text.bytes))
      (c.bytes_sliced.ensures.value ts ns m);
}
