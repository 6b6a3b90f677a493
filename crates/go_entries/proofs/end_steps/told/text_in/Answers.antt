use Rattle.std.proofs.Common.{◌∙◌, sym, ap}
use Rattle.go_core.specs.Memory as core
use Rattle.go_values.specs.ValuesSeen.{scalar_of}
use Rattle.go_values.specs.declared.values.scalar.Scalar.{Scalar}
use Rattle.go_slices.proofs.SlicesScalarLemmas.{text_seen}
use Rattle.go_entries.specs.Told.{text_scalar}
use Rattle.go_entries.proofs.end_steps.told.text_in.Goals as goal

pub returns-in-Text : goal.returns-in-Text
returns-in-Text c = record {
  value = λ ts. sym (ap (λ (x : Scalar). text_scalar (scalar_of ts x)) c.in-Text.is ∙ ap (λ (x : core.Scalar). text_scalar x) (text_seen ts c.in-Text.bytes));
}
