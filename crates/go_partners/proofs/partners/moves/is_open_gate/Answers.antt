use Rattle.std.proofs.Common.{◌∙◌, ap, List}
use Rattle.go_core.specs.Communicate.{is_zero}
use Rattle.go_core.specs.Memory.{read_cells}
use Rattle.go_values.specs.ValuesSeen.{value_of}
use Rattle.go_values.specs.declared.values.scalar.Scalar.{Scalar}
use Rattle.go_partners.proofs.partners.moves.is_open_gate.Goals as goal

pub returns : goal.returns
returns c = record {
  value = λ ts.
      c.is_zero.ensures.value ts
      ∙ ap is_zero (c.read_cells.ensures.value ts ∙ ap (λ (xs : List Scalar). read_cells c.args.base 1 (value_of ts xs)) c.as_slice.ensures.value);
}
