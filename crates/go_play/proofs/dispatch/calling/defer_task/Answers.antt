use Rattle.std.proofs.Common.{subst}
use Rattle.go_type.specs.Table.{places}
use Rattle.go_core.specs.CoreView.{callee_view, program_view}
use Rattle.go_core.specs.Goroutine as core
use Rattle.go_core.specs.GoStep as steps
use Rattle.go_core.specs.Opened as opened
use Rattle.go_state.specs.StateSeen.{move_of}
use Rattle.go_state.proofs.TodoLemmas.{if_ok}
use Rattle.go_state.specs.Goes.{Goes}
use Rattle.go_play.proofs.PlaysLemmas.{plays_went}
use Rattle.go_play.proofs.dispatch.calling.defer_task.Goals as goal

pub returns : goal.returns
returns c =
    let q = program_view c.args.game.p.now in
    let ts = places c.args.game.p.now.types in
    let choices = c.args.game.choices.now in
    let free = move_of c.args.game.free in
    let g = c.args.g in
    let m = c.args.state.now.memory in
    record { value = if_ok c.go_on.result (λ b h. plays_went q ts g c.defer_step-came.result b c.args.frame c.defer_step-came.new.f c.args.state.now c.go_on.new.state m (λ x. steps.task_step q choices free x (core.defer_with (opened.called_of (callee_view ts c.args.callee.now)) c.args.n)) (subst (λ (k : core.Called). Goes q ts c.defer_step-came.result c.args.frame c.defer_step-came.new.f m m (λ x. steps.task_step q choices free x (core.defer_with k c.args.n))) (c.called_by.ensures.value ts) (c.defer_step-came.ensures.value m)) (h ts)) c.go_on.ensures.value }
