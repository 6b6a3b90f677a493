use Rattle.std.proofs.Common.{ap, sym, ◌∙◌, List}
use Rattle.go_core.specs.Goroutine as task
use Rattle.go_state.specs.StateSeen.{stack_of, tasks_of}
use Rattle.go_state.specs.Passed.{passed}
use Rattle.go_state.specs.declared.state.frame.Todo.{Todo}
use Rattle.go_state.proofs.TodoLemmas.{if_ok, on_true, on_false, when_true, when_false}
use Rattle.go_state.proofs.PassedLemmas.{todo_step, todo_past}
use Rattle.go_state.proofs.state.next.pass_over.Goals as goal

pub returns-then-opened-clause-past : goal.returns-then-opened-clause-past
returns-then-opened-clause-past c = λ ts.
    ap (λ (z : List task.Task). passed z (stack_of ts c.args.values.now.items)) (sym (when_true _ c.if-opened.true c.in_ok-opened.ensures.value ts))

pub returns-clause-past : goal.returns-clause-past
returns-clause-past c =
    if_ok c.pass.result (λ b h. on_true b (λ e ts.
    todo_past ts c.args.todo (tasks_of ts c.args.tasks.now.items) _ _ (sym c.in_ok-opened.ensures.opens ∙ c.if-opened.false) (e ts)
    ∙ ap (λ (k : List Todo). passed (tasks_of ts k) (stack_of ts c.pass.new.values.items)) (sym (when_false _ c.if-opened.false c.in_ok-opened.ensures.same))) h) c.pass.ensures.past

pub returns-clause-step : goal.returns-clause-step
returns-clause-step c = if_ok c.pass.result (λ b h. on_false b (λ e ts rest. todo_step ts c.args.todo rest _ (sym c.in_ok-opened.ensures.opens ∙ c.if-opened.false) (e ts)) h) c.pass.ensures.step

pub returns-clause-closed : goal.returns-clause-closed
returns-clause-closed c = if_ok c.pass.result (λ b h. on_false b (λ e. sym c.in_ok-opened.ensures.opens ∙ c.if-opened.false) h) c.pass.ensures.step

pub returns-clause-tasks : goal.returns-clause-tasks
returns-clause-tasks c = if_ok c.pass.result (λ b h. on_false b (λ e. when_false _ c.if-opened.false c.in_ok-opened.ensures.same) h) c.pass.ensures.step

pub returns-clause-smaller : goal.returns-clause-smaller
returns-clause-smaller c = if_ok c.pass.result (λ b h. c.in_ok-opened.ensures.smaller) c.pass.ensures.step
