use Rattle.std.proofs.Common.{◌∙◌, refl}
use Rattle.go_values.proofs.Steps.{goes, stopped}
use Rattle.go_values.proofs.operators.numbers.concat_step.Goals as goal

pub returns-in_err-a : goal.returns-in_err-a
returns-in_err-a c = record { value = λ ts m. stopped ts m c.from_residual.result _ _ _ refl c.from_residual.ensures.1 (c.in_err-a.ensures.value ts _) }

pub returns-in_err-b : goal.returns-in_err-b
returns-in_err-b c = record { value = λ ts m. stopped ts m c.from_residual-in_err-b.result _ _ _ (c.in_ok-a.ensures.value ts _) c.from_residual-in_err-b.ensures.1 (c.in_err-b.ensures.value ts _) }

pub returns : goal.returns
returns c = record { value = λ ts m. goes ts m c.joined.result _ _ (c.in_ok-a.ensures.value ts _ ∙ c.in_ok-b.ensures.value ts _) (c.joined.ensures.value ts m) }
