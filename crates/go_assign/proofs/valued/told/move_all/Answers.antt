use Rattle.std.proofs.Common.{◌∙◌, ap, List, ◌++◌, map}
use Rattle.go_operands.specs.AnswerView.{flaw_view}
use Rattle.go_operands.specs.declared.answers.answer.Flaw.{Flaw}
use Rattle.go_assign.proofs.ToldLemmas.{told_step}
use Rattle.go_assign.proofs.valued.told.move_all.Goals as goal

pub loop-raw-preserved : goal.loop-raw-preserved
loop-raw-preserved c = λ ts.
    let before = map flaw_view c.loop-raw.flaws.items in
    told_step ts c.loop-raw.items.items c.pop.new.self.items c.in-Some.raw before (map flaw_view c.move_flaws.new.flaws.items) _ c.in-Some.ensures.items
    (c.in-Ok.ensures.told ∙ ap (λ (fs : List Flaw). before ++ map flaw_view fs) c.taken_flaws.ensures.value) (c.loop-raw.invariant ts)
