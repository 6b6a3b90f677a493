use Rattle.std.proofs.Common.{refl, rules}
use Rattle.std.specs.Int.{w128}
use Rattle.std.specs.Int.RustNames.{FitsSigned}
use Rattle.std.proofs.lemmas.Int.{to_z-of_z}
use Rattle.go_type.specs.Table.{places}
use Rattle.go_values.proofs.Steps.{goes, stopped}
use Rattle.go_values.proofs.operators.places.slice_elem_of.Goals as goal

pub returns-in_err-index : goal.returns-in_err-index
returns-in_err-index c = record { value = λ m. stopped (places c.args.c.now.table.now) m c.from_residual.result _ _ _ refl c.from_residual.ensures.1 (c.in_err-index.ensures.value (places c.args.c.now.table.now) _) }

pub returns : goal.returns
returns c =
    let f : FitsSigned w128 c.in_ok-index.index = search rules in
    let v = simp to_z-of_z at c.slice_elem_at.ensures.value in
    record {
      value = λ m.
          let ts = places c.args.c.now.table.now in
          goes ts m c.slice_elem_at.result _ _ (c.in_ok-index.ensures.value ts _) (v m);
    }
