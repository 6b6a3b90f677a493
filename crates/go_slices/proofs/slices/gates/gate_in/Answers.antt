use Rattle.std.proofs.Common.{◌∙◌, ◌∷◌, [], ap}
use Rattle.go_core.specs.Operator.{gate_at}
use Rattle.go_core.specs.Memory as core
use Rattle.go_values.specs.ValuesSeen.{scalar_of, memory_of}
use Rattle.go_values.specs.declared.values.scalar.Scalar.{Scalar}
use Rattle.go_slices.proofs.SlicesScalarLemmas.{nil_seen}
use Rattle.go_values.proofs.Steps.{goes}
use Rattle.go_slices.proofs.slices.gates.gate_in.Goals as goal

pub returns-in-Nil : goal.returns-in-Nil
returns-in-Nil c = record {
  value = λ ts.
      let s = memory_of ts c.args.m.now in
      goes ts s c.new_gate.result _ _
      (ap (λ (x : Scalar). gate_at c.args.base (scalar_of ts x ∷ []) s) c.in-Nil.is
      ∙ ap (λ (x : core.Scalar). gate_at c.args.base (x ∷ []) s) (nil_seen ts))
      (c.new_gate.ensures.value ts);
}
