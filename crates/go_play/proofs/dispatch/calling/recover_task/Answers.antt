use Rattle.go_type.specs.Table.{places}
use Rattle.go_core.specs.CoreView.{program_view}
use Rattle.go_state.proofs.TodoLemmas.{if_ok}
use Rattle.go_play.proofs.PlaysLemmas.{plays_recovered}
use Rattle.go_play.proofs.dispatch.calling.recover_task.Goals as goal

pub returns : goal.returns
returns c =
    let q = program_view c.args.game.p.now in
    let ts = places c.args.game.p.now.types in
    let g = c.args.g in
    record { value = if_ok c.go_on.result (λ b h. plays_recovered q ts g c.recover_in-came.result b c.args.frame c.recover_in-came.new.f c.args.state.now c.recover_in-came.new.state c.go_on.new.state (c.recover_in-came.ensures.value q ts) (h ts)) c.go_on.ensures.value }
