use Rattle.go_type.specs.Table.{places}
use Rattle.go_core.specs.CoreView.{program_view}
use Rattle.go_core.specs.Goroutine as core
use Rattle.go_core.specs.GoStep as steps
use Rattle.go_state.specs.StateSeen.{move_of}
use Rattle.go_state.proofs.TodoLemmas.{if_ok}
use Rattle.std.proofs.Common.{refl}
use Rattle.std.specs.Prelude.{Ok}
use Rattle.go_play.proofs.PlaysLemmas.{plays_went}
use Rattle.go_play.proofs.dispatch.talking.yield_task.Goals as goal

pub returns : goal.returns
returns c =
    let q = program_view c.args.game.p.now in
    let ts = places c.args.game.p.now.types in
    record {
      value =
          if_ok c.go_on.result (λ b h. plays_went q ts c.args.g (Ok 0) b c.args.frame c.args.frame c.args.state.now c.go_on.new.state c.args.state.now.memory (λ x. steps.task_step q c.args.game.choices.now (move_of c.args.game.free) x core.yield_turn) (λ x below s. refl) (h ts)) c.go_on.ensures.value;
    }
