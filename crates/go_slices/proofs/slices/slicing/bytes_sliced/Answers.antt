use Rattle.std.proofs.Common.{refl}
use Rattle.go_values.proofs.Steps.{goes, stopped}
use Rattle.go_slices.proofs.slices.slicing.bytes_sliced.Goals as goal

pub returns-in_err-part : goal.returns-in_err-part
returns-in_err-part c = record {
  value = λ ts ns m.
      stopped ts m c.from_residual.result _ _ _ refl c.from_residual.ensures.1 (c.in_err-part.ensures.value ts _);
}

pub returns : goal.returns
returns c = record {
  value = λ ts ns m.
      goes ts m c.text_part.result _ _ (c.in_ok-part.ensures.value ts _) (c.text_part.ensures.value ts m);
}
