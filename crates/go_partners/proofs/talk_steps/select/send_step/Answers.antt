use Rattle.std.proofs.Common.{◌∙◌, ap, sym, ℕ, [], ◌∷◌, map}
use Rattle.std.specs.Prelude.{Option, None, option_and_then}
use Rattle.go_type.specs.Levels.{tree_of}
use Rattle.go_type.specs.Table.{places}
use Rattle.go_core.specs.Communicate as defined
use Rattle.go_core.specs.Communicate.{named_channel}
use Rattle.go_core.specs.Goroutine as core
use Rattle.go_core.specs.Memory.{Value}
use Rattle.go_values.specs.ValuesSeen.{value_of}
use Rattle.go_state.specs.StateSeen.{frame_of, move_of, offer_of, state_of}
use Rattle.go_partners.specs.Moves.{TalkStep, frames_below, with_frames}
use Rattle.go_partners.specs.Chosen.{default_of}
use Rattle.go_partners.proofs.ReachLemmas.{talks_from}
use Rattle.go_partners.proofs.TalkLemmas.{talks_lacked}
use Rattle.go_partners.proofs.SelectLemmas.{one_reached}
use Rattle.go_partners.proofs.talk_steps.select.send_step.Goals as goal

pub returns-in_err-xs-clause-value : goal.returns-in_err-xs-clause-value
returns-in_err-xs-clause-value c = λ p q.
    let ts = places c.args.c.now.table.now in
    let g = c.args.g in
    let free = move_of c.args.free in
    let s = state_of ts c.args.state.now in
    let t = tree_of ts c.args.t in
    let choices = c.args.choices.now in
    let step : TalkStep = λ x below u. defined.send_step p g free choices t x below u in
    talks_lacked p ts g c.from_residual.result c.in_err-xs.field-0.0 c.args.f.now c.operand_pair.new.f c.args.state.now c.args.state.now step c.from_residual.ensures.1
    (λ fs.
    let reaches : core.Frame → Value → Option ℕ → Option core.State = λ f' w name. defined.reach p g free choices None 0 (defined.send_offer p g free t name w [] ∷ []) f' (frames_below g s) (with_frames g fs s) in
    c.in_err-xs.ensures.value ts (λ v w f'. option_and_then (reaches f' w) (named_channel v)))

pub returns-in_ok-ways-in-Some-clause-value : goal.returns-in_ok-ways-in-Some-clause-value
returns-in_ok-ways-in-Some-clause-value c = λ p q.
    let ts = places c.args.c.now.table.now in
    let g = c.args.g in
    let free = move_of c.args.free in
    let s = state_of ts c.args.state.now in
    let t = tree_of ts c.args.t in
    let choices = c.args.choices.now in
    let step : TalkStep = λ x below u. defined.send_step p g free choices t x below u in
    let w = c.in_ok-ways-in-Some.ways in
    let other : TalkStep = λ x below u. defined.reach p g free choices (default_of ts w.default) w.units (map (offer_of ts) w.offers.items) x below u in
    talks_from p ts g c.reach.result c.args.f.now c.operand_pair.new.f c.reach.new.f c.args.state.now c.reach.new.state step other
    (λ fs.
    let reaches : core.Frame → Value → Option ℕ → Option core.State = λ f' w name. defined.reach p g free choices None 0 (defined.send_offer p g free t name w [] ∷ []) f' (frames_below g s) (with_frames g fs s) in
    c.in_ok-xs.ensures.value ts (λ v w f'. option_and_then (reaches f' w) (named_channel v))
    ∙ ap (option_and_then (reaches (frame_of ts c.operand_pair.new.f) (value_of ts c.in_ok-xs.xs.right.now))) (sym (c.named_channel.ensures.value ts) ∙ c.in-Some.is)
    ∙ one_reached p g free ts choices w.default w.units w.offers.items c.in_ok-offer-in-Some.offer (defined.send_offer p g free t c.in-Some.name (value_of ts c.in_ok-xs.xs.right.now) []) (frame_of ts c.operand_pair.new.f) (frames_below g s) (with_frames g fs s)
    c.in_ok-ways-in-Some.ensures.alone c.in_ok-ways-in-Some.ensures.value (c.in_ok-offer-in-Some.ensures.value p g free q))
    (c.reach.ensures.value p ts)

pub returns-in-None-clause-value : goal.returns-in-None-clause-value
returns-in-None-clause-value c = λ p q fs.
    let ts = places c.args.c.now.table.now in
    let g = c.args.g in
    let free = move_of c.args.free in
    let s = state_of ts c.args.state.now in
    let t = tree_of ts c.args.t in
    let choices = c.args.choices.now in
    let reaches : core.Frame → Value → Option ℕ → Option core.State = λ f' w name. defined.reach p g free choices None 0 (defined.send_offer p g free t name w [] ∷ []) f' (frames_below g s) (with_frames g fs s) in
    c.in_ok-xs.ensures.value ts (λ v w f'. option_and_then (reaches f' w) (named_channel v))
    ∙ ap (option_and_then (reaches (frame_of ts c.operand_pair.new.f) (value_of ts c.in_ok-xs.xs.right.now))) (sym (c.named_channel.ensures.value ts) ∙ c.in-None.is)
