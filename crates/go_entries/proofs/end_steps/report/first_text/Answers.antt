use Rattle.std.proofs.Common.{◌∙◌, sym, ap}
use Rattle.go_state.proofs.TodoLemmas.{if_ok}
use Rattle.go_core.specs.Memory as core
use Rattle.go_core.specs.StepInterfaces.{content_text}
use Rattle.go_type.specs.Table.{places}
use Rattle.go_type.specs.Tree.{Ty}
use Rattle.go_values.specs.ValuesSeen.{scalar_of}
use Rattle.go_entries.proofs.end_steps.report.first_text.Goals as goal

pub returns-in-Some : goal.returns-in-Some
returns-in-Some c =
    let ts = places c.args.c.now.table.now in
    record {
      value = if_ok c.level_text.result (λ r h others. h ts others ∙ ap (λ (t : Ty). content_text t (core.scalar (scalar_of ts c.args.x) others)) c.in-Some.ensures.tree) c.level_text.ensures.value;
    }

pub returns-in-None : goal.returns-in-None
returns-in-None c =
    let ts = places c.args.c.now.table.now in
    record {
      value = if_ok c.truth_in.result (λ r h others. h ts others ∙ sym (ap (λ (t : Ty). content_text t (core.scalar (scalar_of ts c.args.x) others)) c.in-None.ensures.none)) c.truth_in.ensures.value;
    }
