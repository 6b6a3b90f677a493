use Rattle.std.proofs.Common.{arith, sym, ◌∙◌, List}
use Rattle.std.proofs.lemmas.List.{nil_from_length}
use Rattle.go_core.specs.Goroutine as task
use Rattle.go_state.specs.StateSeen.{stack_of}
use Rattle.go_state.specs.Passed.{passed}
use Rattle.go_state.proofs.TodoLemmas.{tasks_popped, measure_popped, when_true, when_false}
use Rattle.go_state.proofs.PassedLemmas.{comes, comes_none}
use Rattle.go_state.proofs.state.next.next_todo.Goals as goal

pub tasks-preserved : goal.tasks-preserved
tasks-preserved c = λ ts.
    c.tasks.invariant ts
    ∙ tasks_popped (λ (z : List task.Task). passed z (stack_of ts c.tasks.values.items)) ts c.tasks.tasks.items c.pop.new.self.items c.in-Some.todo c.in-Some.ensures.items
    ∙ when_true _ c.if-not-gone.false c.in_ok-gone.ensures.past ts

pub tasks-smaller : goal.tasks-smaller
tasks-smaller c =
    let m = measure_popped c.tasks.tasks.items c.pop.new.self.items c.in-Some.todo c.in-Some.ensures.items in
    let l = c.in_ok-gone.ensures.smaller in
    omega (arith, m, l)

pub returns-then-not-gone : goal.returns-then-not-gone
returns-then-not-gone c = record {
  value = λ ts.
      c.tasks.invariant ts
      ∙ tasks_popped (λ (z : List task.Task). passed z (stack_of ts c.tasks.values.items)) ts c.tasks.tasks.items c.pop.new.self.items c.in-Some.todo c.in-Some.ensures.items
      ∙ comes ts c.in-Some.todo c.pop.new.self.items c.pass_over.new.tasks.items c.tasks.values.items c.pass_over.new.values.items
      (when_false _ c.if-not-gone.true c.in_ok-gone.ensures.tasks) (when_false _ c.if-not-gone.true c.in_ok-gone.ensures.values) (when_false _ c.if-not-gone.true c.in_ok-gone.ensures.step);
  step = when_false _ c.if-not-gone.true c.in_ok-gone.ensures.step;
  closed = when_false _ c.if-not-gone.true c.in_ok-gone.ensures.closed;
  none = tt;
}

pub returns : goal.returns
returns c = record {
  value = λ ts.
      c.tasks.invariant ts
      ∙ comes_none ts c.tasks.tasks.items c.pop.new.self.items c.tasks.values.items
      (nil_from_length _ (sym c.tasks.tasks.ok.0 ∙ c.in_default.ensures.cases.0)) (nil_from_length _ (sym c.pop.new.self.ok.0 ∙ c.in_default.ensures.cases.1));
  step = tt;
  closed = tt;
  none = nil_from_length _ (sym c.pop.new.self.ok.0 ∙ c.in_default.ensures.cases.1);
}
