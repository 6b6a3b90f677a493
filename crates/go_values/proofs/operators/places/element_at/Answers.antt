use Rattle.std.proofs.Common.{◌∙◌, refl, sym, ap, ℕ}
use Rattle.std.specs.Int.{w128}
use Rattle.std.specs.Int.RustNames.{FitsSigned}
use Rattle.std.proofs.lemmas.Int.{to_z-of_z}
use Rattle.go_type.specs.Table.{places}
use Rattle.go_core.specs.Did.{value_of}
use Rattle.go_core.specs.Memory as core
use Rattle.go_values.proofs.ScalarLemmas.{pointer_seen}
use Rattle.go_values.proofs.Steps.{goes, stopped}
use Rattle.go_values.proofs.operators.places.element_at.Goals as goal

pub returns-in_err-k : goal.returns-in_err-k
returns-in_err-k c =
    let f : FitsSigned w128 c.args.index = c.ranges.index in
    let v = simp to_z-of_z at c.in_err-k.ensures.value in
    record { value = λ m. stopped (places c.args.c.now.table.now) m c.from_residual.result _ _ _ refl c.from_residual.ensures.1 (v _) }

pub returns : goal.returns
returns c =
    let f : FitsSigned w128 c.args.index = c.ranges.index in
    let v = simp to_z-of_z at c.in_ok-k.ensures.value in
    record {
      value = λ m.
          let ts = places c.args.c.now.table.now in
          goes ts m c.gives_one.result _ _
          (v _
          ∙ ap (λ (n : ℕ). value_of m (core.pointer n) 0) (sym c.in_ok-place.ensures.value)
          ∙ ap (λ (x : core.Scalar). value_of m x 0) (sym (pointer_seen ts c.in_ok-place.place)))
          (c.gives_one.ensures.value ts m);
    }
