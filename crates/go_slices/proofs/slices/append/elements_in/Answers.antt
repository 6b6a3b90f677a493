use Rattle.std.proofs.Common.{◌∙◌, ◌∷◌, [], ap}
use Rattle.go_core.specs.Memory as core
use Rattle.go_core.specs.StepSlices.{on_elements}
use Rattle.go_values.specs.ValuesSeen.{scalar_of, memory_of}
use Rattle.go_values.specs.declared.values.scalar.Scalar.{Scalar}
use Rattle.go_slices.proofs.SlicesFoundLemmas.{elements_same}
use Rattle.go_slices.proofs.SlicesScalarLemmas.{text_seen}
use Rattle.go_values.proofs.ScalarLemmas.{slice_seen}
use Rattle.go_slices.proofs.slices.append.elements_in.Goals as goal

pub returns-in-Text : goal.returns-in-Text
returns-in-Text c = record {
  value = λ ts.
      let s = memory_of ts c.args.m.now in
      elements_same ts c.bytes_as_elements.result _ _
      (λ f. ap (λ (x : Scalar). on_elements c.args.one_size (scalar_of ts x ∷ []) s f) c.in-Text.is ∙ ap (λ (x : core.Scalar). on_elements c.args.one_size (x ∷ []) s f) (text_seen ts c.in-Text.bytes))
      (c.bytes_as_elements.ensures.value ts c.args.one_size s);
}

pub returns-in-Slice : goal.returns-in-Slice
returns-in-Slice c = record {
  value = λ ts.
      let s = memory_of ts c.args.m.now in
      elements_same ts c.elements_at.result _ _
      (λ f. ap (λ (x : Scalar). on_elements c.args.one_size (scalar_of ts x ∷ []) s f) c.in-Slice.is ∙ ap (λ (x : core.Scalar). on_elements c.args.one_size (x ∷ []) s f) (slice_seen ts c.in-Slice.base c.in-Slice.length c.in-Slice._capacity))
      (c.elements_at.ensures.value ts c.in-Slice._capacity);
}
