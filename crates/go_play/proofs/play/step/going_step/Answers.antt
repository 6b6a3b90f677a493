use Rattle.std.proofs.Common.{◌∙◌, ap, sym}
use Rattle.std.specs.Prelude.{Some}
use Rattle.go_type.specs.Table.{places}
use Rattle.go_core.specs.CoreView.{program_view}
use Rattle.go_core.specs.Goroutine as core
use Rattle.go_state.specs.StateSeen.{move_of, state_of}
use Rattle.go_state.proofs.TodoLemmas.{if_ok}
use Rattle.go_play.proofs.RunLemmas.{moves_free, none_free, steps_as}
use Rattle.go_play.proofs.play.step.going_step.Goals as goal

pub returns-then-any_moves : goal.returns-then-any_moves
returns-then-any_moves c =
    let q = program_view c.args.game.p.now in
    let ts = places c.args.game.p.now.types in
    record {
      value =
          if_ok c.goroutine_step.result (λ b h. steps_as ts b c.goroutine_step.new.state _ _ (moves_free q c.args.game.choices.now (move_of c.args.game.free) (state_of ts c.args.state.now) (sym (c.any_moves.ensures.value ts) ∙ c.if-any_moves.true)) h)
          c.goroutine_step.ensures.value;
    }

pub returns : goal.returns
returns c =
    let q = program_view c.args.game.p.now in
    let ts = places c.args.game.p.now.types in
    record {
      value =
          none_free q c.args.game.choices.now (move_of c.args.game.free) (state_of ts c.args.state.now) (sym (c.any_moves.ensures.value ts) ∙ c.if-any_moves.false)
          ∙ ap (λ (t : core.State). Some t) (sym (c.in_ok-deadlock.ensures.value ts));
    }
