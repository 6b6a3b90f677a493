use Rattle.std.proofs.Common.{◌≡◌, ◌∙◌, ap, subst, List, []}
use Rattle.std.specs.Prelude.{false, Option, IfSome, IfNone}
use Rattle.go_type.specs.Table.{places}
use Rattle.go_core.specs.CoreView.{program_view}
use Rattle.go_core.specs.GoStep as steps
use Rattle.go_core.specs.Goroutine as core
use Rattle.go_partners.specs.Moves.{TalkStep, frames_below}
use Rattle.go_state.specs.Measure.{opens}
use Rattle.go_state.specs.Passed.{ComesTo, IsStep, Left}
use Rattle.go_state.specs.StateSeen.{frame_of, move_of, stack_of, state_of, tasks_of, todo_first}
use Rattle.go_state.specs.declared.state.frame.Todo.{Todo}
use Rattle.go_state.proofs.TodoLemmas.{if_ok}
use Rattle.go_play.proofs.PlaysLemmas.{plays_as}
use Rattle.go_play.proofs.TurnLemmas.{passed_to}
use Rattle.go_play.proofs.turns.turn.able_step.Goals as goal

pub returns-in-Some : goal.returns-in-Some
returns-in-Some c =
    let q = program_view c.args.game.p.now in
    let ts = places c.args.game.p.now.types in
    let choices = c.args.game.choices.now in
    let free = move_of c.args.game.free in
    let g = c.args.g in
    let f = frame_of ts c.args.frame in
    let below = frames_below g (state_of ts c.args.state.now) in
    let todo = c.in-Some.todo in
    let left = c.next_todo.new.tasks.items in
    let values = c.next_todo.new.values.items in
    let h = subst (λ (o : Option Todo). ComesTo f.tasks f.values ts o left values) c.in-Some.is (c.in_ok-next.ensures.value ts) in
    let step : TalkStep = λ x below s. steps.tasks_step q choices free g x.tasks x below s in
    let other : TalkStep = λ x below s. steps.tasks_step q choices free g (todo_first ts todo x.tasks) x below s in
    record {
      value =
          if_ok c.todo_step.result (λ b k. plays_as q ts g b c.args.frame _ c.args.state.now c.todo_step.new.state step other
          (λ t. passed_to q choices free g c.passing.ensures.passed f (todo_first ts todo (tasks_of ts left)) (tasks_of ts left) (stack_of ts values) below t h) k) c.todo_step.ensures.value;
    }

pub returns-in-None : goal.returns-in-None
returns-in-None c =
    let q = program_view c.args.game.p.now in
    let ts = places c.args.game.p.now.types in
    let choices = c.args.game.choices.now in
    let free = move_of c.args.game.free in
    let g = c.args.g in
    let f = frame_of ts c.args.frame in
    let below = frames_below g (state_of ts c.args.state.now) in
    let left = c.next_todo.new.tasks.items in
    let values = c.next_todo.new.values.items in
    let nil : left ≡ [] = subst (λ (o : Option Todo). IfNone o (left ≡ [])) c.in-None.is c.in_ok-next.ensures.none in
    let left_as : List Todo → Left = λ us. record { tasks = tasks_of ts us; values = stack_of ts values } in
    let h = subst (λ (o : Option Todo). ComesTo f.tasks f.values ts o left values) c.in-None.is (c.in_ok-next.ensures.value ts) in
    let step : TalkStep = λ x below s. steps.tasks_step q choices free g x.tasks x below s in
    let other : TalkStep = λ x below s. steps.tasks_step q choices free g [] x below s in
    record {
      value =
          if_ok c.ended.result (λ b k. plays_as q ts g b c.args.frame _ c.args.state.now c.ended.new.state step other
          (λ t. passed_to q choices free g c.passing.ensures.passed f [] (tasks_of ts left) (stack_of ts values) below t (h ∙ ap left_as nil)) k) c.ended.ensures.value;
    }

pub todo_step-requires : goal.todo_step-requires
todo_step-requires c = record {
  types = c.requires.types;
  goroutine = c.requires.goroutine;
  opened = subst (λ (o : Option Todo). IfSome o (λ t. opens t ≡ false)) c.in-Some.is c.in_ok-next.ensures.closed;
  step = subst (λ (o : Option Todo). IfSome o IsStep) c.in-Some.is c.in_ok-next.ensures.step;
}
