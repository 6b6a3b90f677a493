use Rattle.go_type.specs.Table.{places}
use Rattle.go_core.specs.CoreView.{program_view}
use Rattle.go_core.specs.Goroutine as core
use Rattle.go_core.specs.GoStep as steps
use Rattle.go_state.specs.StateSeen.{move_of}
use Rattle.go_state.proofs.TodoLemmas.{if_ok}
use Rattle.go_play.proofs.PlaysLemmas.{plays_told}
use Rattle.go_play.proofs.dispatch.output.exit_task.Goals as goal

pub returns : goal.returns
returns c =
    let q = program_view c.args.game.p.now in
    let ts = places c.args.game.p.now.types in
    let choices = c.args.game.choices.now in
    let free = move_of c.args.game.free in
    let g = c.args.g in
    record { value = if_ok c.tell.result (λ b h. plays_told q ts g c.exit_step-came.result b c.args.frame c.exit_step-came.new.f c.args.state.now c.tell.new.state (λ x. steps.task_step q choices free x (core.exit_with)) (c.exit_step-came.ensures.value q choices free ts) (h ts)) c.tell.ensures.value }
