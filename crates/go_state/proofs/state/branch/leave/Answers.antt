use Rattle.std.proofs.Common.{arith, ap, sym, ◌∙◌, List}
use Rattle.std.proofs.lemmas.List.{nil_from_length}
use Rattle.go_core.specs.Control.{left}
use Rattle.go_state.specs.StateSeen.{tasks_of}
use Rattle.go_state.specs.declared.state.frame.Todo.{Todo}
use Rattle.go_state.proofs.TodoLemmas.{tasks_popped, measure_popped, when_true, when_false}
use Rattle.go_state.proofs.state.branch.leave.Goals as goal

pub tasks-preserved : goal.tasks-preserved
tasks-preserved c = λ ts.
    c.tasks.invariant ts
    ∙ tasks_popped (left c.args.label.0) ts c.tasks.tasks.items c.pop.new.self.items c.in-Some.todo c.in-Some.ensures.items
    ∙ when_false _ c.if-found.false c.in_ok-found.ensures.past ts

pub tasks-smaller : goal.tasks-smaller
tasks-smaller c =
    let m = measure_popped c.tasks.tasks.items c.pop.new.self.items c.in-Some.todo c.in-Some.ensures.items in
    let l = c.in_ok-found.ensures.smaller in
    omega (arith, m, l)

pub returns-then-found : goal.returns-then-found
returns-then-found c = record {
  value = λ ts. sym (
      c.tasks.invariant ts
      ∙ tasks_popped (left c.args.label.0) ts c.tasks.tasks.items c.pop.new.self.items c.in-Some.todo c.in-Some.ensures.items
      ∙ when_true _ c.if-found.true c.in_ok-found.ensures.end ts);
}

pub returns : goal.returns
returns c = record {
  value = λ ts.
      ap (tasks_of ts) (nil_from_length _ (sym c.pop.new.self.ok.0 ∙ c.in_default.ensures.cases.1))
      ∙ sym (c.tasks.invariant ts ∙ ap (λ (k : List Todo). left c.args.label.0 (tasks_of ts k)) (nil_from_length _ (sym c.tasks.tasks.ok.0 ∙ c.in_default.ensures.cases.0)));
}
