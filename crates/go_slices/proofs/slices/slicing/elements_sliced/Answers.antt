use Rattle.std.proofs.Common.{refl}
use Rattle.go_type.specs.Table.{places}
use Rattle.go_values.proofs.Steps.{goes, stopped}
use Rattle.go_slices.proofs.slices.slicing.elements_sliced.Goals as goal

pub returns-in_err-part : goal.returns-in_err-part
returns-in_err-part c = record {
  value = λ m.
      let ts = places c.args.c.now.table.now in
      stopped ts m c.from_residual.result _ _ _ refl c.from_residual.ensures.1 (c.in_err-part.ensures.value ts _);
}

pub returns : goal.returns
returns c = record {
  value = λ m.
      let ts = places c.args.c.now.table.now in
      goes ts m c.slice_part.result _ _ (c.in_ok-part.ensures.value ts _) (c.slice_part.ensures.value m);
}
