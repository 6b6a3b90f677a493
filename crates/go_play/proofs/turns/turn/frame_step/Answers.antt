use Rattle.std.proofs.Common.{◌≡◌, ◌<◌, ◌∙◌, ap, arith, length, sym, subst}
use Rattle.std.specs.Prelude.{Bool, true, false, slice_get}
use Rattle.go_type.specs.Table.{places}
use Rattle.go_core.specs.Communicate as talking
use Rattle.go_core.specs.CoreView.{program_view}
use Rattle.go_core.specs.Goroutine as core
use Rattle.go_core.specs.GoStep as steps
use Rattle.go_partners.specs.Moves.{TalkStep, frames_below, waiting_in}
use Rattle.go_state.specs.StateSeen.{frame_of, goroutine_of, move_of, state_of, waiting_of}
use Rattle.go_state.proofs.TodoLemmas.{if_ok}
use Rattle.go_state.proofs.ListsLemmas.{get_here}
use Rattle.go_play.proofs.PlaysLemmas.{plays_as}
use Rattle.go_play.specs.Turns.{IsAble}
use Rattle.go_play.proofs.TurnLemmas.{by_able, by_wait}
use Rattle.go_play.proofs.turns.turn.frame_step.Goals as goal

pub returns-then-is_able : goal.returns-then-is_able
returns-then-is_able c =
    let q = program_view c.args.game.p.now in
    let ts = places c.args.game.p.now.types in
    let choices = c.args.game.choices.now in
    let free = move_of c.args.game.free in
    let g = c.args.g in
    let s = state_of ts c.args.state.now in
    let xs = c.args.state.now.goroutines.items in
    let counted = c.args.state.now.goroutines.ok.0 in
    let l : g < length xs = omega (arith, c.requires.goroutine, counted) in
    let x = c.index.result.now in
    let w = waiting_in (slice_get s.goroutines g) in
    let there : w ≡ waiting_of ts x.waiting = ap waiting_in (get_here (goroutine_of ts) xs g x l c.index.ensures) in
    let able = subst (λ (b : Bool). IsAble b (waiting_of ts x.waiting)) c.if-is_able.true (c.is_able.ensures.value ts) in
    let step : TalkStep = λ f below t. steps.by_waiting q choices free g w f below t in
    let other : TalkStep = λ f below t. steps.tasks_step q choices free g f.tasks f below t in
    record {
      value =
          if_ok c.able_step.result (λ b k. plays_as q ts g b c.args.frame c.args.frame c.args.state.now c.able_step.new.state step other
          (λ t. by_able q choices free g w (frame_of ts c.args.frame) (frames_below g s) t (there ∙ able)) k) c.able_step.ensures.value;
    }

pub returns : goal.returns
returns c =
    let q = program_view c.args.game.p.now in
    let ts = places c.args.game.p.now.types in
    let choices = c.args.game.choices.now in
    let free = move_of c.args.game.free in
    let g = c.args.g in
    let s = state_of ts c.args.state.now in
    let xs = c.args.state.now.goroutines.items in
    let counted = c.args.state.now.goroutines.ok.0 in
    let l : g < length xs = omega (arith, c.requires.goroutine, counted) in
    let x = c.index.result.now in
    let w = waiting_in (slice_get s.goroutines g) in
    let there : w ≡ waiting_of ts x.waiting = ap waiting_in (get_here (goroutine_of ts) xs g x l c.index.ensures) in
    let waits = subst (λ (b : Bool). IsAble b (waiting_of ts x.waiting)) c.if-is_able.false (c.is_able.ensures.value ts) in
    let step : TalkStep = λ f below t. steps.by_waiting q choices free g w f below t in
    let other : TalkStep = λ f below t. talking.waiting_step q g free w f below t in
    record {
      value =
          if_ok c.wait_step.result (λ b k. plays_as q ts g b c.args.frame c.args.frame c.args.state.now c.wait_step.new.state step other
          (λ t. by_wait q choices free g w (frame_of ts c.args.frame) (frames_below g s) t (λ h. waits (sym there ∙ h))) k) c.wait_step.ensures.value;
    }
