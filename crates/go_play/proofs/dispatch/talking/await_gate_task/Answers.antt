use Rattle.std.proofs.Common.{refl}
use Rattle.go_type.specs.Table.{places}
use Rattle.go_core.specs.CoreView.{program_view}
use Rattle.go_core.specs.Goroutine as core
use Rattle.go_core.specs.GoStep as steps
use Rattle.go_state.specs.StateSeen.{move_of}
use Rattle.go_state.proofs.TodoLemmas.{if_ok}
use Rattle.go_play.proofs.PlaysLemmas.{plays_talked}
use Rattle.go_play.proofs.dispatch.talking.await_gate_task.Goals as goal

pub returns : goal.returns
returns c =
    let q = program_view c.args.game.p.now in
    let ts = places c.args.game.p.now.types in
    let choices = c.args.game.choices.now in
    let free = move_of c.args.game.free in
    let g = c.args.g in
    record { value = if_ok c.talk.result (λ b h. plays_talked q ts g c.await_gate_step-came.result b c.args.frame c.await_gate_step-came.new.f c.args.state.now c.args.state.now c.talk.new.state (λ x below t. steps.task_step q choices free g (core.await_gate) x below t) (c.await_gate_step-came.ensures.value q ts free) refl (h ts)) c.talk.ensures.value }
