use Rattle.std.proofs.Common.{◌∙◌, refl, sym, ap, rules, Bool}
use Rattle.std.specs.Int.{w128}
use Rattle.std.specs.Int.RustNames.{FitsSigned}
use Rattle.std.proofs.lemmas.Int.{to_z-of_z}
use Rattle.go_core.specs.Did.{value_of}
use Rattle.go_core.specs.Memory as core
use Rattle.go_values.proofs.ScalarLemmas.{truth_seen}
use Rattle.go_values.proofs.Steps.{goes, stopped}
use Rattle.go_values.proofs.operators.numbers.less_numbers.Goals as goal

pub returns-in_err-a : goal.returns-in_err-a
returns-in_err-a c = record { value = λ ts m name. stopped ts m c.from_residual.result _ _ _ refl c.from_residual.ensures.1 (c.in_err-a.ensures.value ts _) }

pub returns-in_err-b : goal.returns-in_err-b
returns-in_err-b c = record { value = λ ts m name. stopped ts m c.from_residual-in_err-b.result _ _ _ (c.in_ok-a.ensures.value ts _) c.from_residual-in_err-b.ensures.1 (c.in_err-b.ensures.value ts _) }

pub returns : goal.returns
returns c =
    let f : FitsSigned w128 c.in_ok-a.a = search rules in
    let g : FitsSigned w128 c.in_ok-b.b = search rules in
    let v = simp to_z-of_z at c.numbers_in_order.ensures.value in
    record {
      value = λ ts m name.
          goes ts m c.gives_one.result _ _
          (c.in_ok-a.ensures.value ts _
          ∙ c.in_ok-b.ensures.value ts _
          ∙ ap (λ (b : Bool). value_of m (core.truth b) 1) (sym v)
          ∙ ap (λ (x : core.Scalar). value_of m x 1) (sym (truth_seen ts c.numbers_in_order.result)))
          (c.gives_one.ensures.value ts m);
    }
