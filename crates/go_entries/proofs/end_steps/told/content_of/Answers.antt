use Rattle.std.proofs.Common.{◌∙◌, ◌∷◌, [], sym, ap}
use Rattle.go_core.specs.Memory as core
use Rattle.go_core.specs.Memory.{Value}
use Rattle.go_core.specs.Panics.{content_of}
use Rattle.go_values.specs.ValuesSeen.{scalar_of, value_of, values_of}
use Rattle.go_values.specs.declared.values.scalar.Scalar.{Scalar}
use Rattle.go_slices.proofs.LevelLemmas.{listed_packed}
use Rattle.go_slices.proofs.CompositesScalarLemmas.{interface_seen}
use Rattle.go_entries.proofs.end_steps.told.content_of.Goals as goal

pub returns-in_ok-vs-in-Interface : goal.returns-in_ok-vs-in-Interface
returns-in_ok-vs-in-Interface c = record {
  value = λ ts p g.
      ap (values_of ts) c.in_ok-vs-in-Interface.ensures
      ∙ sym (ap (λ (x : Scalar). content_of p g (scalar_of ts x)) c.in-Interface.is
      ∙ ap (λ (x : core.Scalar). content_of p g x) (interface_seen ts _ c.in-Interface.content)
      ∙ ap (λ (v : Value). v ∷ []) (listed_packed (value_of ts c.in-Interface.content.now)));
}
