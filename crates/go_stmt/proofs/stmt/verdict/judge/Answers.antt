use Rattle.std.proofs.Common.{ap, map, sym, ◌∙◌}
use Rattle.go_operands.specs.AnswerView.{flaw_view}
use Rattle.go_typing.specs.Checked.{least}
use Rattle.go_items.specs.Shown.{shown}
use Rattle.go_stmt.proofs.CheckLemmas.{refuses, none_told}
use Rattle.go_stmt.proofs.stmt.verdict.judge.Goals as goal

pub returns-in-Some : goal.returns-in-Some
returns-in-Some c =
    let all = ap least (sym (ap (map flaw_view) c.as_slice.ensures.value ∙ c.in_ok-or_generated.ensures.value)) ∙ sym c.least.ensures.value ∙ ap shown c.in-Some.is in
    record { value = refuses c.refusal_of.result (flaw_view c.in-Some.flaw.now) _ c.refusal_of.ensures.value all }

pub returns : goal.returns
returns c =
    let all = ap least (sym (ap (map flaw_view) c.as_slice.ensures.value ∙ c.in_ok-or_generated.ensures.value)) ∙ sym c.least.ensures.value ∙ ap shown c.in-None.is in
    record { value = none_told _ all }
