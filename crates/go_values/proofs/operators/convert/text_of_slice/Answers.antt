use Rattle.std.proofs.Common.{◌∙◌, ◌∷◌, [], sym, ap, List}
use Rattle.gj_base.specs.declared.kind.Kind.{Kind}
use Rattle.go_type.specs.Tree.{int}
use Rattle.go_core.specs.Memory as core
use Rattle.go_core.specs.Memory.{Value, read_cells}
use Rattle.go_core.specs.StepNumbers.{made_text, text_of_slice, slice_to_text}
use Rattle.go_values.specs.ValuesSeen.{scalar_of, value_of, memory_of}
use Rattle.go_values.specs.declared.values.scalar.Scalar.{Scalar}
use Rattle.go_values.proofs.ScalarLemmas.{slice_seen}
use Rattle.go_values.proofs.Steps.{goes}
use Rattle.go_values.proofs.operators.convert.text_of_slice.Goals as goal

pub returns-in-Slice : goal.returns-in-Slice
returns-in-Slice c = record {
  value = λ ts ns name h.
      let s = memory_of ts c.args.m.now in
      let base = c.in-Slice.base in
      let count = c.in-Slice.length in
      let read = c.read_cells.ensures.value ts ∙ ap (λ (xs : List Scalar). read_cells base count (value_of ts xs)) c.as_slice.ensures.value in
      goes ts s c.text_of_cells.result _ _
      (ap (λ (x : Scalar). slice_to_text ns (int name) (scalar_of ts x ∷ []) s) c.in-Slice.is
      ∙ ap (λ (x : core.Scalar). slice_to_text ns (int name) (x ∷ []) s) (slice_seen ts base count _)
      ∙ ap (λ (k : Kind). made_text s (text_of_slice k (read_cells base count s.cells))) (sym h)
      ∙ ap (λ (v : Value). made_text s (text_of_slice c.args.kind v)) (sym read))
      (c.text_of_cells.ensures.value ts s);
}
