use Rattle.std.proofs.Common.{ap, ◌∙◌, sym, [], List}
use Rattle.std.proofs.lemmas.List.Sums.{fold-append}
use Rattle.go_core.specs.CoreTree.{Stmts}
use Rattle.go_core.specs.Goroutine as defined
use Rattle.go_core.specs.Opened.{all_opened}
use Rattle.go_state.specs.StateSeen.{frame_of, tasks_of, todo_first}
use Rattle.go_state.specs.declared.state.frame.Todo.{Todo}
use Rattle.go_state.proofs.ListsLemmas.{stmts_whole}
use Rattle.go_partners.proofs.selects.reach.run.Goals as goal

pub returns : goal.returns
returns c = record {
  value = λ ts.
      let f = frame_of ts c.args.f.now in
      let with_tasks : List defined.Task → defined.Frame = λ us. record f { tasks = us } in
      ap (λ (us : List Todo). with_tasks (tasks_of ts us)) c.in_ok-push.ensures.items
      ∙ ap with_tasks (fold-append (λ (rest : List defined.Task) (t : Todo). todo_first ts t rest) [] c.args.f.now.tasks.items _)
      ∙ ap (λ (ss : Stmts). with_tasks (all_opened ss f.tasks)) (sym (stmts_whole ts c.args.body.now));
}
