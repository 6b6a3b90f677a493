use Rattle.std.proofs.Common.{◌∙◌, refl, sym, ap, rules, ℤ}
use Rattle.std.specs.Int.{w128}
use Rattle.std.specs.Int.RustNames.{FitsSigned}
use Rattle.std.proofs.lemmas.Int.{to_z-of_z}
use Rattle.go_type.specs.Table.{places}
use Rattle.go_core.specs.Did.{value_of}
use Rattle.go_core.specs.Memory as core
use Rattle.go_values.proofs.ScalarLemmas.{whole_seen}
use Rattle.go_values.proofs.Steps.{goes, stopped}
use Rattle.go_values.proofs.operators.numbers.unary_step.Goals as goal

pub returns-in_err-kind : goal.returns-in_err-kind
returns-in_err-kind c = record { value = λ m. stopped (places c.args.c.now.table.now) m c.from_residual.result _ _ _ refl c.from_residual.ensures.1 (c.in_err-kind.ensures.value _) }

pub returns-in_err-a : goal.returns-in_err-a
returns-in_err-a c = record { value = λ m. stopped (places c.args.c.now.table.now) m c.from_residual-in_err-a.result _ _ _ (c.in_ok-kind.ensures.value _) c.from_residual-in_err-a.ensures.1 (c.in_err-a.ensures.value (places c.args.c.now.table.now) _) }

pub returns : goal.returns
returns c =
    let f : FitsSigned w128 c.in_ok-a.a = search rules in
    let v = simp to_z-of_z at c.in_ok-n.ensures.value in
    let g : FitsSigned w128 c.in_ok-n.n = search rules in
    let given = simp to_z-of_z at c.gives_one.ensures.value in
    record {
      value = λ m.
          let ts = places c.args.c.now.table.now in
          goes ts m c.gives_one.result _ _
          (c.in_ok-kind.ensures.value _
          ∙ c.in_ok-a.ensures.value ts _
          ∙ ap (λ (n : ℤ). value_of m (core.whole n) 0) (sym v)
          ∙ ap (λ (x : core.Scalar). value_of m x 0) (sym (whole_seen ts c.in_ok-n.n)))
          (given ts m);
    }
