use Rattle.std.proofs.Common.{◌∙◌, refl, sym, ap, List}
use Rattle.go_core.specs.Memory.{Value, read_cells}
use Rattle.go_core.specs.Operator.{gate_at}
use Rattle.go_values.specs.ValuesSeen.{value_of, memory_of}
use Rattle.go_values.specs.declared.values.scalar.Scalar.{Scalar}
use Rattle.go_values.proofs.Steps.{goes, stopped}
use Rattle.go_slices.proofs.slices.gates.gate_step.Goals as goal

pub returns-in_err-base : goal.returns-in_err-base
returns-in_err-base c = record { value = λ ts. stopped ts (memory_of ts c.args.m.now) c.from_residual.result _ _ _ refl c.from_residual.ensures.1 (c.in_err-base.ensures.value ts _) }

pub returns : goal.returns
returns c = record {
  value = λ ts.
      let s = memory_of ts c.args.m.now in
      goes ts s c.gate_at.result _ _
      (c.in_ok-base.ensures.value ts _
      ∙ ap (λ (v : Value). gate_at c.in_ok-base.base v s) (sym (c.read_cells-held.ensures.value ts ∙ ap (λ (xs : List Scalar). read_cells c.in_ok-base.base 1 (value_of ts xs)) c.as_slice.ensures.value)))
      (c.gate_at.ensures.value ts);
}
