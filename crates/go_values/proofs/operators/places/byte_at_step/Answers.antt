use Rattle.std.proofs.Common.{◌∙◌, refl, rules}
use Rattle.std.specs.Int.{w128}
use Rattle.std.specs.Int.RustNames.{FitsSigned}
use Rattle.std.proofs.lemmas.Int.{to_z-of_z}
use Rattle.go_values.proofs.Steps.{goes, stopped}
use Rattle.go_values.proofs.operators.places.byte_at_step.Goals as goal

pub returns-in_err-bytes : goal.returns-in_err-bytes
returns-in_err-bytes c = record { value = λ ts m. stopped ts m c.from_residual.result _ _ _ refl c.from_residual.ensures.1 (c.in_err-bytes.ensures.value ts _) }

pub returns-in_err-index : goal.returns-in_err-index
returns-in_err-index c = record { value = λ ts m. stopped ts m c.from_residual-in_err-index.result _ _ _ (c.in_ok-bytes.ensures.value ts _) c.from_residual-in_err-index.ensures.1 (c.in_err-index.ensures.value ts _) }

pub returns-in_err-k : goal.returns-in_err-k
returns-in_err-k c =
    let f : FitsSigned w128 c.in_ok-index.index = search rules in
    let v = simp to_z-of_z at c.in_err-k.ensures.value in
    record {
      value = λ ts m. stopped ts m c.from_residual-in_err-k.result _ _ _ (c.in_ok-bytes.ensures.value ts _ ∙ c.in_ok-index.ensures.value ts _) c.from_residual-in_err-k.ensures.1 (v _);
    }

pub returns : goal.returns
returns c =
    let f : FitsSigned w128 c.in_ok-index.index = search rules in
    let v = simp to_z-of_z at c.in_ok-k.ensures.value in
    record { value = λ ts m. goes ts m c.byte_or_none.result _ _ (c.in_ok-bytes.ensures.value ts _ ∙ c.in_ok-index.ensures.value ts _ ∙ v _) (c.byte_or_none.ensures.value ts m) }
