use Rattle.std.proofs.Common.{ap, sym, ◌∙◌}
use Rattle.go_core.specs.Control.{continued}
use Rattle.go_state.proofs.TodoLemmas.{when_true, when_false}
use Rattle.go_state.proofs.BranchLemmas.{continued_ends, continued_goes_on}
use Rattle.go_state.proofs.state.branch.continue_one.Goals as goal

pub returns-then-opened-clause-past : goal.returns-then-opened-clause-past
returns-then-opened-clause-past c = λ ts. ap (continued c.args.label.0) (sym (when_true _ c.if-opened.true c.in_ok-opened.ensures.value ts))

pub returns-then-found-clause-end : goal.returns-then-found-clause-end
returns-then-found-clause-end c =
    continued_ends c.args.label.0 c.args.todo c.args.tasks.now.items _ _ (sym c.turns-found.ensures.value ∙ c.if-found.true) (sym c.in_ok-opened.ensures.opens ∙ c.if-opened.false)
    (when_false _ c.if-opened.false c.in_ok-opened.ensures.same) c.in_ok-push.ensures.items

pub returns-clause-past : goal.returns-clause-past
returns-clause-past c =
    continued_goes_on c.args.label.0 c.args.todo c.args.tasks.now.items _ (sym c.turns-found.ensures.value ∙ c.if-found.false) (sym c.in_ok-opened.ensures.opens ∙ c.if-opened.false)
    (when_false _ c.if-opened.false c.in_ok-opened.ensures.same)
