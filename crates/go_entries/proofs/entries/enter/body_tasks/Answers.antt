use Rattle.std.proofs.Common.{◌∙◌, ◌++◌, ◌∷◌, [], sym, ap, List}
use Rattle.std.specs.Prelude.{Option}
use Rattle.go_core.specs.Goroutine as defined
use Rattle.go_core.specs.Opened.{all_opened}
use Rattle.go_core.specs.CoreView.{var_of, func_view}
use Rattle.go_values.specs.ValuesSeen.{value_of}
use Rattle.go_state.proofs.TodoLemmas.{tasks_popped}
use Rattle.go_entries.specs.EntriesSeen.{first_of}
use Rattle.go_entries.specs.declared.entries.receiver.First.{First}
use Rattle.go_entries.proofs.EntriesEnterLemmas.{body_pushed}
use Rattle.go_entries.proofs.entries.enter.body_tasks.Goals as goal

pub returns-in_ok-push-in-Some-2 : goal.returns-in_ok-push-in-Some-2
returns-in_ok-push-in-Some-2 c = record {
  value = λ ts.
      tasks_popped (λ (z : List defined.Task). z) ts _ _ _ c.in_ok-push-in-Some-2.ensures.items
      ∙ tasks_popped (λ (z : List defined.Task). defined.push_value (value_of ts c.in-Some.read.pointer.now) ∷ z) ts _ _ _ c.in_ok-push-in-Some.ensures.items
      ∙ ap (λ (z : List defined.Task). defined.push_value (value_of ts c.in-Some.read.pointer.now) ∷ defined.receive_through (var_of ts c.in-Some.read.var) ∷ z) (body_pushed ts _ _ _ c.in_ok-push.ensures.items c.new-tasks.ensures.items)
      ∙ sym (ap (λ (o : Option First). first_of ts o ++ all_opened (func_view ts c.args.func.now).body []) c.in-Some.is);
}

pub returns-in-None : goal.returns-in-None
returns-in-None c = record {
  value = λ ts.
      body_pushed ts _ _ _ c.in_ok-push.ensures.items c.new-tasks.ensures.items
      ∙ sym (ap (λ (o : Option First). first_of ts o ++ all_opened (func_view ts c.args.func.now).body []) c.in-None.is);
}
