use Rattle.std.proofs.Common.{◌∙◌, sym, ap}
use Rattle.go_state.proofs.TodoLemmas.{if_ok}
use Rattle.go_core.specs.Memory as core
use Rattle.go_core.specs.Memory.{packed}
use Rattle.go_core.specs.StepInterfaces.{content_text, plain_text}
use Rattle.go_type.specs.Table.{places, names}
use Rattle.go_type.specs.Tree.{Ty}
use Rattle.go_values.specs.ValuesSeen.{scalar_of, value_of}
use Rattle.go_values.specs.declared.values.scalar.Scalar.{Scalar}
use Rattle.go_slices.proofs.CompositesScalarLemmas.{interface_seen}
use Rattle.go_entries.proofs.end_steps.report.plain_text.Goals as goal

pub returns-in-Interface : goal.returns-in-Interface
returns-in-Interface c =
    let w = c.args.c.now.table.now in
    let ts = places w in
    let content = c.in-Interface.content in
    record {
      value = if_ok c.content_text.result (λ r h.
          h
          ∙ ap (λ (t : Ty). content_text t (packed (value_of ts content.now))) c.underlying.ensures.tree
          ∙ sym (ap (λ (x : Scalar). plain_text (names w) (scalar_of ts x)) c.in-Interface.is ∙ ap (λ (x : core.Scalar). plain_text (names w) x) (interface_seen ts c.in-Interface.ty content))) c.content_text.ensures.value;
    }
