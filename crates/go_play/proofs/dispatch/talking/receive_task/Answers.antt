use Rattle.std.proofs.Common.{ap, subst, sym}
use Rattle.go_type.specs.Levels.{tree_of}
use Rattle.go_type.specs.Table.{places, names}
use Rattle.go_type.specs.declared.table.TypeTable.{TypeTable}
use Rattle.go_core.specs.CoreView.{program_view}
use Rattle.go_core.specs.Goroutine as core
use Rattle.go_core.specs.GoStep as steps
use Rattle.go_state.specs.StateSeen.{move_of}
use Rattle.go_state.proofs.TodoLemmas.{if_ok}
use Rattle.go_partners.specs.Talks.{Talks}
use Rattle.go_play.proofs.PlaysLemmas.{plays_talked, same_below}
use Rattle.go_play.proofs.dispatch.talking.receive_task.Goals as goal

pub returns : goal.returns
returns c =
    let q = program_view c.args.game.p.now in
    let ts = places c.args.game.p.now.types in
    let choices = c.args.game.choices.now in
    let free = move_of c.args.game.free in
    let g = c.args.g in
    record { value = if_ok c.talk.result (λ b h. plays_talked q ts g c.receive_step-came.result b c.args.frame c.receive_step-came.new.f c.args.state.now c.receive_step-came.new.state c.talk.new.state (λ x below t. steps.task_step q choices free g (core.receive_from (tree_of ts c.args.t) c.args.ok) x below t) (subst (λ (w : TypeTable). Talks q (places w) g c.receive_step-came.result c.args.frame c.receive_step-came.new.f c.args.state.now c.receive_step-came.new.state (λ x below t. steps.task_step q choices free g (core.receive_from (tree_of (places w) c.args.t) c.args.ok) x below t)) c.requires.types (c.receive_step-came.ensures.value q (ap names (sym c.requires.types)))) (same_below ts c.args.state.now.goroutines.items c.receive_step-came.new.state.goroutines.items g c.receive_step-came.ensures.own) (h ts)) c.talk.ensures.value }
