use Rattle.std.proofs.Common.{◌∙◌, refl, rules}
use Rattle.std.specs.Int.{w128}
use Rattle.std.specs.Int.RustNames.{FitsSigned}
use Rattle.std.proofs.lemmas.Int.{to_z-of_z}
use Rattle.go_type.specs.Table.{places}
use Rattle.go_core.specs.Arithmetic.{computed}
use Rattle.go_values.proofs.Steps.{goes, stopped}
use Rattle.go_values.proofs.operators.numbers.binary_step.Goals as goal

pub returns-in_err-kind : goal.returns-in_err-kind
returns-in_err-kind c = record { value = λ m. stopped (places c.args.c.now.table.now) m c.from_residual.result _ _ _ refl c.from_residual.ensures.1 (c.in_err-kind.ensures.value _) }

pub returns-in_err-a : goal.returns-in_err-a
returns-in_err-a c = record { value = λ m. stopped (places c.args.c.now.table.now) m c.from_residual-in_err-a.result _ _ _ (c.in_ok-kind.ensures.value _) c.from_residual-in_err-a.ensures.1 (c.in_err-a.ensures.value (places c.args.c.now.table.now) _) }

pub returns-in_err-b : goal.returns-in_err-b
returns-in_err-b c = record {
  value = λ m.
      stopped (places c.args.c.now.table.now) m c.from_residual-in_err-b.result _ _ _
      (c.in_ok-kind.ensures.value _ ∙ c.in_ok-a.ensures.value (places c.args.c.now.table.now) _)
      c.from_residual-in_err-b.ensures.1 (c.in_err-b.ensures.value (places c.args.c.now.table.now) _);
}

pub returns : goal.returns
returns c =
    let f : FitsSigned w128 c.in_ok-a.a = search rules in
    let g : FitsSigned w128 c.in_ok-b.b = search rules in
    let v = simp to_z-of_z at c.in_ok-n.ensures.value in
    record {
      value = λ m.
          let ts = places c.args.c.now.table.now in
          goes ts m c.number_or.result _ _
          (c.in_ok-kind.ensures.value _ ∙ c.in_ok-a.ensures.value ts _ ∙ c.in_ok-b.ensures.value ts _)
          (c.number_or.ensures.value ts m c.in_ok-kind.kind (computed c.args.op c.in_ok-kind.kind c.in_ok-a.a c.in_ok-b.b) v);
    }
