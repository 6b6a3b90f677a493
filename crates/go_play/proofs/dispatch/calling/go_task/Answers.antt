use Rattle.std.proofs.Common.{subst}
use Rattle.go_type.specs.Table.{places}
use Rattle.go_core.specs.CoreView.{callee_view, program_view}
use Rattle.go_core.specs.Goroutine as core
use Rattle.go_core.specs.GoStep as steps
use Rattle.go_core.specs.Opened as opened
use Rattle.go_state.specs.StateSeen.{move_of}
use Rattle.go_state.proofs.TodoLemmas.{if_ok}
use Rattle.go_entries.specs.Enters.{Starts}
use Rattle.go_play.proofs.PlaysLemmas.{plays_begun}
use Rattle.go_play.proofs.dispatch.calling.go_task.Goals as goal

pub returns : goal.returns
returns c =
    let q = program_view c.args.game.p.now in
    let ts = places c.args.game.p.now.types in
    let choices = c.args.game.choices.now in
    let free = move_of c.args.game.free in
    let g = c.args.g in
    let m = c.args.state.now.memory in
    record { value = if_ok c.begin.result (λ b h. plays_begun q ts g c.go_step-came.result b c.args.frame c.go_step-came.new.f c.args.state.now c.begin.new.state c.go_step-came.new.m (λ x. steps.task_step q choices free x (core.go_with (opened.called_of (callee_view ts c.args.callee.now)) c.args.n)) (subst (λ (k : core.Called). Starts q ts c.go_step-came.result c.args.frame c.go_step-came.new.f m c.go_step-came.new.m (λ x. steps.task_step q choices free x (core.go_with k c.args.n))) (c.called_by.ensures.value ts) (c.go_step-came.ensures.value)) (h ts)) c.begin.ensures.value }
