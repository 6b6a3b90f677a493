use Rattle.std.proofs.Common.{◌∙◌, refl, ap, map}
use Rattle.gj_base.specs.declared.kind.Kind.{Kind}
use Rattle.go_core.specs.Layout.{kind_of}
use Rattle.go_core.specs.StepNumbers.{whole_of, elements_of}
use Rattle.go_values.specs.ValuesSeen.{memory_of}
use Rattle.go_values.proofs.Steps.{goes, stopped}
use Rattle.go_values.proofs.operators.convert.slice_of_text.Goals as goal

pub returns-in_err-bytes : goal.returns-in_err-bytes
returns-in_err-bytes c = record { value = λ ts name h. stopped ts (memory_of ts c.args.m.now) c.from_residual.result _ _ _ refl c.from_residual.ensures.1 (c.in_err-bytes.ensures.value ts _) }

pub returns : goal.returns
returns c = record {
  value = λ ts name h.
      let bytes = c.in_ok-bytes.bytes.now in
      goes ts (memory_of ts c.args.m.now) c.made_slice.result _ _ (c.in_ok-bytes.ensures.value ts _)
      (c.made_slice.ensures.value ts (elements_of (kind_of name) bytes) (c.in_ok-cells.ensures.value ts ∙ ap (λ (k : Kind). map whole_of (elements_of k bytes)) h));
}
