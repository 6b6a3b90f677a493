use Rattle.std.proofs.Common.{◌∙◌, ◌++◌, refl, sym, ap, rules, ℕ, List}
use Rattle.std.specs.Int.{w128}
use Rattle.std.specs.Int.RustNames.{FitsSigned}
use Rattle.std.proofs.lemmas.Int.{to_z-of_z}
use Rattle.go_core.specs.StepNumbers.{made_text}
use Rattle.go_core.specs.Text.{encoded_number}
use Rattle.go_values.proofs.Steps.{goes, stopped}
use Rattle.go_values.proofs.operators.convert.number_to_text.Goals as goal

pub returns-in_err-n : goal.returns-in_err-n
returns-in_err-n c = record { value = λ ts ns from m. stopped ts m c.from_residual.result _ _ _ refl c.from_residual.ensures.1 (c.in_err-n.ensures.value ts _) }

pub returns : goal.returns
returns c =
    let f : FitsSigned w128 c.in_ok-n.n = search rules in
    let v = simp to_z-of_z at c.in_ok-push_encoded_number.ensures.value in
    let text = c.as_slice.ensures.value ∙ v ∙ ap (λ (old : List ℕ). old ++ encoded_number c.in_ok-n.n) c.new-text.ensures.items in
    record { value = λ ts ns from m. goes ts m c.made_text.result _ _ (c.in_ok-n.ensures.value ts _ ∙ ap (made_text m) (sym text)) (c.made_text.ensures.value ts m) }
