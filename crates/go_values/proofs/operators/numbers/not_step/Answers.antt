use Rattle.std.proofs.Common.{◌∙◌, refl, sym, ap, not}
use Rattle.go_core.specs.Did.{value_of}
use Rattle.go_core.specs.Memory as core
use Rattle.go_values.proofs.ScalarLemmas.{truth_seen}
use Rattle.go_values.proofs.Steps.{goes, stopped}
use Rattle.go_values.proofs.operators.numbers.not_step.Goals as goal

pub returns-in_err-b : goal.returns-in_err-b
returns-in_err-b c = record { value = λ ts m. stopped ts m c.from_residual.result _ _ _ refl c.from_residual.ensures.1 (c.in_err-b.ensures.value ts _) }

pub returns : goal.returns
returns c = record {
  value = λ ts m.
      goes ts m c.gives_one.result _ _
      (c.in_ok-b.ensures.value ts _ ∙ ap (λ (x : core.Scalar). value_of m x 0) (sym (truth_seen ts (not c.in_ok-b.b))))
      (c.gives_one.ensures.value ts m);
}
