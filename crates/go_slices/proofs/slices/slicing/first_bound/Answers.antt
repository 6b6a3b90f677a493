use Rattle.std.proofs.Common.{◌≡◌, ◌∷◌, ◌∙◌, ap, rules, List, true}
use Rattle.go_core.specs.StepSlices.{one_or}
use Rattle.std.specs.Borrow.{Bor}
use Rattle.std.specs.Int.{w128}
use Rattle.std.specs.Int.RustNames.{FitsSigned}
use Rattle.std.proofs.lemmas.Int.{to_z-of_z}
use Rattle.go_values.specs.ValuesSeen.{values_of}
use Rattle.go_values.specs.declared.values.scalar.Scalar.{Scalar}
use Rattle.go_slices.proofs.SlicesFoundLemmas.{bound_stopped}
use Rattle.go_slices.proofs.Steps.{stops}
use Rattle.go_slices.proofs.slices.slicing.first_bound.Goals as goal

pub returns-in_err-value-in-Some : goal.returns-in_err-value-in-Some
returns-in_err-value-in-Some c =
    let e : c.args.vs.now ≡ c.in-Some.x.now ∷ c.in-Some.rest.now = search rules in
    record {
      value = λ ts n. bound_stopped ts c.from_residual.result _ _ c.from_residual.ensures.1 (λ f.
          stops _ _ _ (ap (λ (us : List (Bor (List Scalar))). one_or true (values_of ts us) n f) e) (c.in_err-value-in-Some.ensures.value ts (λ k. f k (values_of ts c.in-Some.rest.now))));
    }

pub returns-in_ok-value-in-Some : goal.returns-in_ok-value-in-Some
returns-in_ok-value-in-Some c =
    let e : c.args.vs.now ≡ c.in-Some.x.now ∷ c.in-Some.rest.now = search rules in
    let k : FitsSigned w128 c.in_ok-value-in-Some.value = search rules in
    record { value = λ ts n f. simp to_z-of_z (ap (λ (us : List (Bor (List Scalar))). one_or true (values_of ts us) n f) e ∙ c.in_ok-value-in-Some.ensures.value ts (λ k. f k (values_of ts c.in-Some.rest.now))) }
