use Rattle.std.proofs.Common.{◌∙◌, refl, sym, ap}
use Rattle.go_values.proofs.Steps.{goes, stopped}
use Rattle.go_core.specs.Did.{value_of}
use Rattle.go_core.specs.Memory as core
use Rattle.go_slices.proofs.SlicesScalarLemmas.{nil_seen}
use Rattle.go_slices.proofs.slices.slicing.nil_sliced.Goals as goal

pub returns-in_err-_part : goal.returns-in_err-_part
returns-in_err-_part c = record {
  value = λ ts ns t m.
      stopped ts m c.from_residual.result _ _ _ refl c.from_residual.ensures.1 (c.in_err-_part.ensures.value ts _);
}

pub returns : goal.returns
returns c = record {
  value = λ ts ns t m.
      goes ts m c.gives_one.result _ _ (c.in_ok-_part.ensures.value ts _ ∙ ap (λ (x : core.Scalar). value_of m x 0) (sym (nil_seen ts))) (c.gives_one.ensures.value ts m);
}
