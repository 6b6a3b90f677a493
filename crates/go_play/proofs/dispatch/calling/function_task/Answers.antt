use Rattle.go_type.specs.Table.{places}
use Rattle.go_core.specs.CoreView.{program_view}
use Rattle.go_core.specs.Goroutine as core
use Rattle.go_core.specs.GoStep as steps
use Rattle.go_state.specs.StateSeen.{move_of}
use Rattle.go_state.proofs.TodoLemmas.{if_ok}
use Rattle.go_play.proofs.PlaysLemmas.{plays_entered}
use Rattle.go_play.proofs.dispatch.calling.function_task.Goals as goal

pub returns : goal.returns
returns c =
    let q = program_view c.args.game.p.now in
    let ts = places c.args.game.p.now.types in
    let choices = c.args.game.choices.now in
    let free = move_of c.args.game.free in
    let g = c.args.g in
    let m = c.args.state.now.memory in
    record { value = if_ok c.enter.result (λ b h. plays_entered q ts g c.call_step-came.result b c.args.frame c.call_step-came.new.f c.args.state.now c.enter.new.state c.call_step-came.new.m (λ x. steps.task_step q choices free x (core.call_with (core.the_function c.args.func.0) 0)) (c.call_step-came.ensures.value) (h ts)) c.enter.ensures.value }
