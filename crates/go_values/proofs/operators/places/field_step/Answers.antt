use Rattle.std.proofs.Common.{◌∙◌, ◌+◌, refl, sym, ap, ℕ}
use Rattle.go_type.specs.Table.{places}
use Rattle.go_core.specs.Did.{value_of}
use Rattle.go_core.specs.Memory as core
use Rattle.go_values.proofs.ScalarLemmas.{pointer_seen}
use Rattle.go_values.proofs.Steps.{goes, stopped}
use Rattle.go_values.proofs.operators.places.field_step.Goals as goal

pub returns-in_err-base : goal.returns-in_err-base
returns-in_err-base c = record { value = λ m. stopped (places c.args.c.now.table.now) m c.from_residual.result _ _ _ refl c.from_residual.ensures.1 (c.in_err-base.ensures.value (places c.args.c.now.table.now) _) }

pub returns : goal.returns
returns c = record {
  value = λ m.
      let ts = places c.args.c.now.table.now in
      goes ts m c.gives_one.result _ _
      (c.in_ok-base.ensures.value ts _
      ∙ ap (λ (n : ℕ). value_of m (core.pointer (c.in_ok-base.base + n)) 0) (sym c.in_ok-offset.ensures.value)
      ∙ ap (λ (n : ℕ). value_of m (core.pointer n) 0) (sym c.in_ok-place.ensures.value)
      ∙ ap (λ (x : core.Scalar). value_of m x 0) (sym (pointer_seen ts c.in_ok-place.place)))
      (c.gives_one.ensures.value ts m);
}
