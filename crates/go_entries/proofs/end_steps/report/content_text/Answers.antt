use Rattle.std.proofs.Common.{◌∙◌, sym, ap, List}
use Rattle.go_state.proofs.TodoLemmas.{if_ok}
use Rattle.go_core.specs.Memory.{packed}
use Rattle.go_core.specs.StepInterfaces.{content_text}
use Rattle.go_type.specs.Levels.{tree_of}
use Rattle.go_type.specs.Table.{places}
use Rattle.go_values.specs.ValuesSeen.{value_of}
use Rattle.go_values.specs.declared.values.scalar.Scalar.{Scalar}
use Rattle.go_entries.proofs.FrameLemmas.{none_there}
use Rattle.go_entries.proofs.TextLemmas.{empty_text}
use Rattle.go_entries.proofs.end_steps.report.content_text.Goals as goal

pub returns-in-Some : goal.returns-in-Some
returns-in-Some c =
    let ts = places c.args.c.now.table.now in
    record {
      value = if_ok c.first_text.result (λ r h. h _ ∙ sym (ap (λ (xs : List Scalar). content_text (tree_of ts c.args.under) (packed (value_of ts xs))) c.in-Some.ensures.cases.0)) c.first_text.ensures.value;
    }

pub returns-in-None : goal.returns-in-None
returns-in-None c =
    let ts = places c.args.c.now.table.now in
    let e = none_there c.args.content.now c.in-None.ensures.cases in
    record {
      value = if_ok c.other_text.result (λ r h.
          h ∙ empty_text (tree_of ts c.args.under) ∙ sym (ap (λ (xs : List Scalar). content_text (tree_of ts c.args.under) (packed (value_of ts xs))) e)) c.other_text.ensures.value;
    }
