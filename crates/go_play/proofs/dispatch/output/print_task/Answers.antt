use Rattle.go_type.specs.Table.{places}
use Rattle.go_core.specs.CoreView.{program_view}
use Rattle.go_core.specs.Goroutine as core
use Rattle.go_core.specs.GoStep as steps
use Rattle.go_state.specs.StateSeen.{move_of}
use Rattle.go_state.proofs.TodoLemmas.{if_ok}
use Rattle.go_play.proofs.PlaysLemmas.{plays_printed}
use Rattle.go_play.proofs.dispatch.output.print_task.Goals as goal

pub returns : goal.returns
returns c =
    let q = program_view c.args.game.p.now in
    let ts = places c.args.game.p.now.types in
    let choices = c.args.game.choices.now in
    let free = move_of c.args.game.free in
    let g = c.args.g in
    record { value = if_ok c.go_on.result (λ b h. plays_printed q ts g c.print_step-came.result b c.args.frame c.print_step-came.new.f c.args.state.now c.go_on.new.state c.print_step-came.new.printed (λ x. steps.task_step q choices free x (core.print_values c.args.n c.args.ends_line)) (c.print_step-came.ensures.value q choices free ts) (h ts)) c.go_on.ensures.value }
