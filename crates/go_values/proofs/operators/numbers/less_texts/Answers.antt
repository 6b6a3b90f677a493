use Rattle.std.proofs.Common.{◌∙◌, ◌+◌, refl, sym, ap, length, min, ℕ, Bool}
use Rattle.go_core.specs.Text.{text_less}
use Rattle.go_core.specs.Arithmetic.{in_order}
use Rattle.go_core.specs.Did.{value_of}
use Rattle.go_core.specs.Memory as core
use Rattle.go_values.proofs.ScalarLemmas.{truth_seen}
use Rattle.go_values.proofs.Steps.{goes, stopped}
use Rattle.go_values.proofs.operators.numbers.less_texts.Goals as goal

pub returns-in_err-a : goal.returns-in_err-a
returns-in_err-a c = record { value = λ ts m. stopped ts m c.from_residual.result _ _ _ refl c.from_residual.ensures.1 (c.in_err-a.ensures.value ts _) }

pub returns-in_err-b : goal.returns-in_err-b
returns-in_err-b c = record { value = λ ts m. stopped ts m c.from_residual-in_err-b.result _ _ _ (c.in_ok-a.ensures.value ts _) c.from_residual-in_err-b.ensures.1 (c.in_err-b.ensures.value ts _) }

pub returns : goal.returns
returns c =
    let a = c.in_ok-a.a.now in
    let b = c.in_ok-b.b.now in
    let n = 1 + min (length a) (length b) in
    record {
      value = λ ts m.
          goes ts m c.gives_one.result _ _
          (c.in_ok-a.ensures.value ts _
          ∙ c.in_ok-b.ensures.value ts _
          ∙ ap (λ (t : Bool). value_of m (core.truth (in_order c.args.op t (text_less b a))) n) (sym c.text_less.ensures.value)
          ∙ ap (λ (t : Bool). value_of m (core.truth (in_order c.args.op c.text_less.result t)) n) (sym c.text_less-2.ensures.value)
          ∙ ap (λ (t : Bool). value_of m (core.truth t) n) (sym c.in_order-ordered.ensures.value)
          ∙ ap (λ (k : ℕ). value_of m (core.truth c.in_order-ordered.result) k) (sym c.bytes_compared.ensures.value)
          ∙ ap (λ (x : core.Scalar). value_of m x c.bytes_compared.result) (sym (truth_seen ts c.in_order-ordered.result)))
          (c.gives_one.ensures.value ts m);
    }
