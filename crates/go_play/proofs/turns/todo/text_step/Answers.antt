use Rattle.std.proofs.Common.{◌∙◌, ap, subst, List, []}
use Rattle.std.specs.Prelude.{Option}
use Rattle.go_type.specs.Table.{places}
use Rattle.go_core.specs.CoreView.{program_view}
use Rattle.go_core.specs.Goroutine as core
use Rattle.go_core.specs.GoStep as steps
use Rattle.go_entries.specs.DoingSeen.{doing_of, IsDone}
use Rattle.go_entries.specs.declared.doing.task.Doing.{Doing}
use Rattle.go_partners.specs.Moves.{TalkStep, frames_below}
use Rattle.go_state.specs.StateSeen.{frame_of, move_of, state_of}
use Rattle.go_state.proofs.TodoLemmas.{if_ok}
use Rattle.go_state.specs.TasksSeen.{first_of}
use Rattle.go_play.proofs.PlaysLemmas.{plays_as}
use Rattle.go_play.proofs.TaskLemmas.{step_next, doing_steps}
use Rattle.go_state.specs.Passed.{begins_with_step}
use Rattle.go_play.proofs.StepLemmas.{clash}
use Rattle.go_play.proofs.turns.todo.text_step.Goals as goal

pub returns : goal.returns
returns c =
    let q = program_view c.args.game.p.now in
    let ts = places c.args.game.p.now.types in
    let choices = c.args.game.choices.now in
    let free = move_of c.args.game.free in
    let g = c.args.g in
    let d = doing_of ts c.in-Some.does in
    let step : TalkStep = λ x below s. steps.tasks_step q choices free g (first_of ts c.args.task x.tasks) x below s in
    let other : TalkStep = λ x below s. steps.task_step q choices free g d x below s in
    let f = frame_of ts c.args.frame in
    let below = frames_below g (state_of ts c.args.state.now) in
    record {
      value =
          if_ok c.step_of.result (λ b h. plays_as q ts g b c.args.frame c.args.frame c.args.state.now c.step_of.new.state step other
          (λ t. ap (λ (us : List core.Task). steps.tasks_step q choices free g us f below t) (subst (λ (o : Option Doing). IsDone ts o (first_of ts c.args.task)) c.in-Some.is (c.in_ok-found.ensures.value ts) f.tasks) ∙ step_next q choices free g d f.tasks f below t (doing_steps ts c.in-Some.does))
          h) c.step_of.ensures.value;
    }

pub unreachable-requires : goal.unreachable-requires
unreachable-requires c =
    let ts = places c.args.game.p.now.types in
    let none = subst (λ (o : Option Doing). IsDone ts o (first_of ts c.args.task)) c.in-None.is (c.in_ok-found.ensures.value ts) in
    clash (begins_with_step (first_of ts c.args.task [])) (c.requires.step ts []) none
