use Rattle.std.proofs.Common.{ap, subst, sym}
use Rattle.go_type.specs.Table.{places, names}
use Rattle.go_type.specs.declared.table.TypeTable.{TypeTable}
use Rattle.go_core.specs.CoreView.{program_view}
use Rattle.go_core.specs.Goroutine as core
use Rattle.go_core.specs.GoStep as steps
use Rattle.go_state.specs.StateSeen.{move_of, vars_of}
use Rattle.go_state.proofs.TodoLemmas.{if_ok}
use Rattle.go_state.specs.Goes.{Goes}
use Rattle.go_play.proofs.PlaysLemmas.{plays_went}
use Rattle.go_play.proofs.dispatch.local.bind_task.Goals as goal

pub returns : goal.returns
returns c =
    let q = program_view c.args.game.p.now in
    let ts = places c.args.game.p.now.types in
    let choices = c.args.game.choices.now in
    let free = move_of c.args.game.free in
    let g = c.args.g in
    let m = c.args.state.now.memory in
    record { value = if_ok c.go_on.result (λ b h. plays_went q ts g c.bind_step-came.result b c.args.frame c.bind_step-came.new.f c.args.state.now c.go_on.new.state c.bind_step-came.new.m (λ x. steps.task_step q choices free x (core.bind_vars (vars_of ts c.args.vars.now))) (subst (λ (w : TypeTable). Goes q (places w) c.bind_step-came.result c.args.frame c.bind_step-came.new.f m c.bind_step-came.new.m (λ x. steps.task_step q choices free x (core.bind_vars (vars_of (places w) c.args.vars.now)))) c.requires.types (c.bind_step-came.ensures.value q (ap names (sym c.requires.types)))) (h ts)) c.go_on.ensures.value }
