use Rattle.std.proofs.Common.{map}
use Rattle.go_type.specs.Table.{places}
use Rattle.go_core.specs.CoreView.{init_step_view, program_view}
use Rattle.go_state.proofs.TodoLemmas.{if_ok}
use Rattle.go_state.specs.StateSeen.{move_of}
use Rattle.go_schedule.proofs.RunsLemmas.{was_reached}
use Rattle.go_schedule.proofs.run.replay.Goals as goal

pub returns : goal.returns
returns c = record {
  reached = if_ok c.play.result (λ r h. was_reached (places c.args.p.now.types) (program_view c.args.p.now) (map init_step_view c.args.order.now.items.items) c.args.choices.now (map move_of c.args.moves.now) r h) c.play.ensures.value;
}
