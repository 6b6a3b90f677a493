use Rattle.go_type.specs.Table.{places}
use Rattle.go_core.specs.CoreView.{program_view}
use Rattle.go_core.specs.Goroutine as core
use Rattle.go_core.specs.GoStep as steps
use Rattle.go_state.specs.TasksSeen.{targets_from}
use Rattle.go_state.specs.StateSeen.{move_of}
use Rattle.go_state.proofs.TodoLemmas.{if_ok}
use Rattle.go_play.proofs.PlaysLemmas.{plays_went}
use Rattle.go_play.proofs.dispatch.local.assign_task.Goals as goal

pub returns : goal.returns
returns c =
    let q = program_view c.args.game.p.now in
    let ts = places c.args.game.p.now.types in
    let choices = c.args.game.choices.now in
    let free = move_of c.args.game.free in
    let g = c.args.g in
    let m = c.args.state.now.memory in
    record { value = if_ok c.go_on.result (λ b h. plays_went q ts g c.begin_assign-came.result b c.args.frame c.begin_assign-came.new.f c.args.state.now c.go_on.new.state c.begin_assign-came.new.m (λ x. steps.task_step q choices free x (core.assign (targets_from ts c.args.targets.now 0) c.args.n)) (c.begin_assign-came.ensures.value) (h ts)) c.go_on.ensures.value }
