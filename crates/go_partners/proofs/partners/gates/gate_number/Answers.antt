use Rattle.std.proofs.Common.{◌∙◌, ap, List}
use Rattle.go_core.specs.Communicate.{number_in}
use Rattle.go_core.specs.Memory.{read_cells}
use Rattle.go_values.specs.ValuesSeen.{value_of}
use Rattle.go_values.specs.declared.values.scalar.Scalar.{Scalar}
use Rattle.go_partners.proofs.partners.gates.gate_number.Goals as goal

pub returns : goal.returns
returns c = record {
  value = λ ts p g free.
      c.number_in.ensures.value ts p g free
      ∙ ap (number_in p g free) (c.read_cells.ensures.value ts ∙ ap (λ (xs : List Scalar). read_cells c.args.base 1 (value_of ts xs)) c.as_slice.ensures.value);
}
