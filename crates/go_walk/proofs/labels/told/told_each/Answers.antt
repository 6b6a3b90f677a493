use Rattle.std.proofs.Common.{◌∙◌, ◌+◌, sym, ap, List, [], ◌∷◌, ◌++◌, Bool, ◌||◌, drop, map, bytes_eq, refl}
use Rattle.std.specs.Borrow.{Bor}
use Rattle.go_syntax.specs.declared.tree.Name.{Name}
use Rattle.go_operands.specs.AnswerView.{flaw_view}
use Rattle.go_typing.specs.Labels.{label_flaws}
use Rattle.go_walk.specs.Seen.{names_of, texts}
use Rattle.go_walk.proofs.LabelsSteps.{next_at}
use Rattle.go_walk.proofs.ToldLemmas.{told_step}
use Rattle.go_walk.proofs.labels.told.told_each.Goals as goal

pub loop-label-init : goal.loop-label-init
loop-label-init c = ([], c.new-seen.ensures, refl)

pub loop-label-preserved : goal.loop-label-preserved
loop-label-preserved c =
    let n = c.label-item.result.now in
    let seen = c.loop-label.invariant.0 in
    let rest = names_of (drop (c.loop-label.label-index + 1) c.args.labels.now) in (
      n.text ∷ seen,
      λ y. c.in_ok-insert.ensures.value y ∙ ap (λ (b : Bool). bytes_eq y n.text || b) (c.loop-label.invariant.1 y),
      told_step (map flaw_view c.loop-label.flaws.items) (map flaw_view c.told_one.new.flaws.items) seen n rest (texts c.args.branches.now) c.has-stood.result c.has-is_used.result
          (c.has-stood.ensures.value ∙ c.loop-label.invariant.1 n.text) (c.has-is_used.ensures.value ∙ c.in_ok-used.ensures.value n.text) c.in_ok-told_one.ensures.value
          ∙ ap (λ (ns : List (Bor Name)). map flaw_view c.loop-label.flaws.items ++ label_flaws seen (names_of ns) (texts c.args.branches.now)) (sym (next_at c.args.labels.now c.loop-label.label-index c.label-item.result c.loop-label-test.true c.label-item.is))
          ∙ c.loop-label.invariant.2,
    )
