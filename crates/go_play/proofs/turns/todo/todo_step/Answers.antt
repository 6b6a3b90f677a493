use Rattle.std.proofs.Common.{refl, sym, subst, []}
use Rattle.std.specs.Prelude.{false}
use Rattle.go_type.specs.Table.{places}
use Rattle.go_core.specs.CoreView.{program_view}
use Rattle.go_core.specs.GoStep as steps
use Rattle.go_state.specs.StateSeen.{move_of, todo_first}
use Rattle.go_state.specs.declared.state.frame.Todo.{Todo}
use Rattle.go_state.proofs.TodoLemmas.{if_ok}
use Rattle.go_play.specs.Plays.{Plays}
use Rattle.go_state.specs.Passed.{IsStep}
use Rattle.go_play.proofs.StepLemmas.{clash}
use Rattle.go_play.proofs.turns.todo.todo_step.Goals as goal

pub returns-in-Text : goal.returns-in-Text
returns-in-Text c = record {
  value = if_ok c.text_step.result (λ b h. subst (λ (d : Todo). let ts = places c.args.game.p.now.types in Plays ts c.args.g b c.args.frame c.args.state.now c.text_step.new.state (λ x below s. steps.tasks_step (program_view c.args.game.p.now) c.args.game.choices.now (move_of c.args.game.free) c.args.g (todo_first ts d x.tasks) x below s)) (sym c.in-Text.is) h) c.text_step.ensures.value;
}

pub returns-in-ReceiveThrough : goal.returns-in-ReceiveThrough
returns-in-ReceiveThrough c = record {
  value = if_ok c.through_task.result (λ b h. subst (λ (d : Todo). let ts = places c.args.game.p.now.types in Plays ts c.args.g b c.args.frame c.args.state.now c.through_task.new.state (λ x below s. steps.tasks_step (program_view c.args.game.p.now) c.args.game.choices.now (move_of c.args.game.free) c.args.g (todo_first ts d x.tasks) x below s)) (sym c.in-ReceiveThrough.is) h) c.through_task.ensures.value;
}

pub returns-in-AssignRest : goal.returns-in-AssignRest
returns-in-AssignRest c = record {
  value = if_ok c.rest_task.result (λ b h. subst (λ (d : Todo). let ts = places c.args.game.p.now.types in Plays ts c.args.g b c.args.frame c.args.state.now c.rest_task.new.state (λ x below s. steps.tasks_step (program_view c.args.game.p.now) c.args.game.choices.now (move_of c.args.game.free) c.args.g (todo_first ts d x.tasks) x below s)) (sym c.in-AssignRest.is) h) c.rest_task.ensures.value;
}

pub returns-in-NextRange : goal.returns-in-NextRange
returns-in-NextRange c = record {
  value = if_ok c.next_range_task.result (λ b h. subst (λ (d : Todo). let ts = places c.args.game.p.now.types in Plays ts c.args.g b c.args.frame c.args.state.now c.next_range_task.new.state (λ x below s. steps.tasks_step (program_view c.args.game.p.now) c.args.game.choices.now (move_of c.args.game.free) c.args.g (todo_first ts d x.tasks) x below s)) (sym c.in-NextRange.is) h) c.next_range_task.ensures.value;
}

pub returns-in-BindVars : goal.returns-in-BindVars
returns-in-BindVars c = record {
  value = if_ok c.bind_task.result (λ b h. subst (λ (d : Todo). let ts = places c.args.game.p.now.types in Plays ts c.args.g b c.args.frame c.args.state.now c.bind_task.new.state (λ x below s. steps.tasks_step (program_view c.args.game.p.now) c.args.game.choices.now (move_of c.args.game.free) c.args.g (todo_first ts d x.tasks) x below s)) (sym c.in-BindVars.is) h) c.bind_task.ensures.value;
}

pub returns-in-SetGlobals : goal.returns-in-SetGlobals
returns-in-SetGlobals c = record {
  value = if_ok c.globals_task.result (λ b h. subst (λ (d : Todo). let ts = places c.args.game.p.now.types in Plays ts c.args.g b c.args.frame c.args.state.now c.globals_task.new.state (λ x below s. steps.tasks_step (program_view c.args.game.p.now) c.args.game.choices.now (move_of c.args.game.free) c.args.g (todo_first ts d x.tasks) x below s)) (sym c.in-SetGlobals.is) h) c.globals_task.ensures.value;
}

pub returns-in-Call : goal.returns-in-Call
returns-in-Call c = record {
  value = if_ok c.function_task.result (λ b h. subst (λ (d : Todo). let ts = places c.args.game.p.now.types in Plays ts c.args.g b c.args.frame c.args.state.now c.function_task.new.state (λ x below s. steps.tasks_step (program_view c.args.game.p.now) c.args.game.choices.now (move_of c.args.game.free) c.args.g (todo_first ts d x.tasks) x below s)) (sym c.in-Call.is) h) c.function_task.ensures.value;
}

pub returns-in-Finish : goal.returns-in-Finish
returns-in-Finish c = record {
  value = if_ok c.finish_task.result (λ b h. subst (λ (d : Todo). let ts = places c.args.game.p.now.types in Plays ts c.args.g b c.args.frame c.args.state.now c.finish_task.new.state (λ x below s. steps.tasks_step (program_view c.args.game.p.now) c.args.game.choices.now (move_of c.args.game.free) c.args.g (todo_first ts d x.tasks) x below s)) (sym c.in-Finish.is) h) c.finish_task.ensures.value;
}

pub unreachable-requires : goal.unreachable-requires
unreachable-requires c =
    let h = subst (λ (d : Todo). IsStep d) c.in-Push.is c.requires.step in
    clash false (h [] []) refl

pub text_step-requires-clause-step : goal.text_step-requires-clause-step
text_step-requires-clause-step c = subst (λ (d : Todo). IsStep d) c.in-Text.is c.requires.step
