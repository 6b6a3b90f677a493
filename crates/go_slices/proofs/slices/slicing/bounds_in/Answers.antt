use Rattle.std.proofs.Common.{◌∙◌, rules}
use Rattle.std.specs.Int.{w128}
use Rattle.std.specs.Int.RustNames.{FitsSigned}
use Rattle.std.proofs.lemmas.Int.{to_z-of_z}
use Rattle.go_slices.proofs.SlicesFoundLemmas.{found_stopped}
use Rattle.go_slices.proofs.Steps.{stops}
use Rattle.go_slices.specs.SlicesFound.{bounds_of}
use Rattle.go_slices.proofs.slices.slicing.bounds_in.Goals as goal

pub returns-in_err-low : goal.returns-in_err-low
returns-in_err-low c = record { value = λ ts. found_stopped bounds_of c.from_residual.result _ _ c.from_residual.ensures.1 (λ f. c.in_err-low.ensures.value ts _) }

pub returns-in_err-high : goal.returns-in_err-high
returns-in_err-high c = record {
  value = λ ts. found_stopped bounds_of c.from_residual-in_err-high.result _ _ c.from_residual-in_err-high.ensures.1 (λ f. stops _ _ _ (c.in_ok-low.ensures.value ts _) (c.in_err-high.ensures.value ts _));
}

pub returns-in_err-limit : goal.returns-in_err-limit
returns-in_err-limit c = record {
  value = λ ts. found_stopped bounds_of c.from_residual-in_err-limit.result _ _ c.from_residual-in_err-limit.ensures.1 (λ f.
      stops _ _ _ (c.in_ok-low.ensures.value ts _ ∙ c.in_ok-high.ensures.value ts _) (c.in_err-limit.ensures.value ts _));
}

pub returns-in_err-none_left : goal.returns-in_err-none_left
returns-in_err-none_left c = record {
  value = λ ts. found_stopped bounds_of c.from_residual-in_err-none_left.result _ _ c.from_residual-in_err-none_left.ensures.1 (λ f.
      stops _ _ _ (c.in_ok-low.ensures.value ts _ ∙ c.in_ok-high.ensures.value ts _ ∙ c.in_ok-limit.ensures.value ts _) (c.in_err-none_left.ensures.value ts _));
}

pub returns : goal.returns
returns c =
    let f-low : FitsSigned w128 c.in_ok-low.low.value = search rules in
    let f-high : FitsSigned w128 c.in_ok-high.high.value = search rules in
    let f-limit : FitsSigned w128 c.in_ok-limit.limit.value = search rules in
    record {
      value = λ ts f.
          simp to_z-of_z (c.in_ok-low.ensures.value ts _ ∙ c.in_ok-high.ensures.value ts _ ∙ c.in_ok-limit.ensures.value ts _ ∙ c.in_ok-none_left.ensures.value ts _);
    }
