use Rattle.std.proofs.Common.{◌∙◌, refl, sym, ap, rules, ℤ}
use Rattle.std.specs.Int.{w128}
use Rattle.std.specs.Int.RustNames.{FitsSigned}
use Rattle.std.proofs.lemmas.Int.{to_z-of_z}
use Rattle.gj_base.specs.declared.kind.Kind.{Kind}
use Rattle.go_core.specs.Arithmetic.{wrapped}
use Rattle.go_core.specs.Did.{value_of}
use Rattle.go_core.specs.Memory as core
use Rattle.go_values.proofs.ScalarLemmas.{whole_seen}
use Rattle.go_values.proofs.Steps.{goes, stopped}
use Rattle.go_values.proofs.operators.convert.number_to.Goals as goal

pub returns-in_err-n : goal.returns-in_err-n
returns-in_err-n c = record { value = λ ts ns from name m h. stopped ts m c.from_residual.result _ _ _ refl c.from_residual.ensures.1 (c.in_err-n.ensures.value ts _) }

pub returns : goal.returns
returns c =
    let f : FitsSigned w128 c.in_ok-n.n = search rules in
    let v = simp to_z-of_z at c.wrapped.ensures.value in
    let g : FitsSigned w128 c.wrapped.result = search rules in
    let given = simp to_z-of_z at c.gives_one.ensures.value in
    record {
      value = λ ts ns from name m h.
          goes ts m c.gives_one.result _ _
          (c.in_ok-n.ensures.value ts _
          ∙ ap (λ (k : Kind). value_of m (core.whole (wrapped k c.in_ok-n.n)) 0) (sym h)
          ∙ ap (λ (n : ℤ). value_of m (core.whole n) 0) (sym v)
          ∙ ap (λ (x : core.Scalar). value_of m x 0) (sym (whole_seen ts c.wrapped.result)))
          (given ts m);
    }
