use Rattle.std.proofs.Common.{ap, sym, ◌∙◌}
use Rattle.go_core.specs.Control.{left}
use Rattle.go_state.proofs.TodoLemmas.{when_true, when_false}
use Rattle.go_state.proofs.BranchLemmas.{left_ends, left_goes_on}
use Rattle.go_state.proofs.state.branch.leave_one.Goals as goal

pub returns-then-opened-clause-past : goal.returns-then-opened-clause-past
returns-then-opened-clause-past c = λ ts. ap (left c.args.label.0) (sym (when_true _ c.if-opened.true c.in_ok-opened.ensures.value ts))

pub returns-clause-end : goal.returns-clause-end
returns-clause-end c =
    left_ends c.args.label.0 c.ends.result c.args.todo c.args.tasks.now.items _ c.ends.ensures.value (sym c.in_ok-opened.ensures.opens ∙ c.if-opened.false) (when_false _ c.if-opened.false c.in_ok-opened.ensures.same)

pub returns-clause-past : goal.returns-clause-past
returns-clause-past c =
    left_goes_on c.args.label.0 c.ends.result c.args.todo c.args.tasks.now.items _ c.ends.ensures.value (sym c.in_ok-opened.ensures.opens ∙ c.if-opened.false) (when_false _ c.if-opened.false c.in_ok-opened.ensures.same)
