use Rattle.std.proofs.Common.{◌∙◌, sym}
use Rattle.std.specs.Prelude.{Some, Ok, Err}
use Rattle.go_core.specs.Communicate.{offer_ready, offer_taken, way_if_ready}
use Rattle.go_state.specs.StateSeen.{move_of, offer_of, state_of}
use Rattle.go_partners.specs.Moves.{TalkStep, with_frames}
use Rattle.go_partners.proofs.FramesLemmas.{offer_ready_same}
use Rattle.go_partners.proofs.TakeLemmas.{if_true, if_false, moves_as}
use Rattle.go_partners.proofs.ReachLemmas.{talks_able, talks_stopped}
use Rattle.go_partners.proofs.waits.waiting.take_ready.Goals as goal

pub returns-in_err-units-clause-value : goal.returns-in_err-units-clause-value
returns-in_err-units-clause-value c = λ p ts offers.
    let g = c.args.g in
    let free = move_of c.args.free in
    let s = state_of ts c.args.state.now in
    let o = offer_of ts c.args.offer in
    let x = c.in_err-units.field-0.0 in
    let step : TalkStep = λ f below t. way_if_ready p g free (Some o) offers f below t in
    let other : TalkStep = λ f below t. offer_taken p g free (Some o) f below t in
    talks_stopped p ts g c.from_residual.result x c.args.f.now c.take_offer.new.f c.args.state.now c.take_offer.new.state step c.from_residual.ensures.1
    (moves_as p ts g (Err x) c.args.f.now c.take_offer.new.f c.args.state.now c.take_offer.new.state step other
    (λ fs. if_true (offer_ready g (with_frames g fs s) o) _ _ (offer_ready_same fs g s o ∙ sym (c.offer_ready.ensures.value ts) ∙ c.if-offer_ready.true))
    (c.in_err-units.ensures.value p ts))

pub returns-then-offer_ready-clause-value : goal.returns-then-offer_ready-clause-value
returns-then-offer_ready-clause-value c = λ p ts offers.
    let g = c.args.g in
    let free = move_of c.args.free in
    let s = state_of ts c.args.state.now in
    let o = offer_of ts c.args.offer in
    let step : TalkStep = λ f below t. way_if_ready p g free (Some o) offers f below t in
    let other : TalkStep = λ f below t. offer_taken p g free (Some o) f below t in
    talks_able p ts g c.able.result c.in_ok-units.units c.args.f.now c.take_offer.new.f c.args.state.now c.take_offer.new.state step c.able.ensures.value
    (moves_as p ts g (Ok c.in_ok-units.units) c.args.f.now c.take_offer.new.f c.args.state.now c.take_offer.new.state step other
    (λ fs. if_true (offer_ready g (with_frames g fs s) o) _ _ (offer_ready_same fs g s o ∙ sym (c.offer_ready.ensures.value ts) ∙ c.if-offer_ready.true))
    (c.in_ok-units.ensures.value p ts))

pub returns-clause-value : goal.returns-clause-value
returns-clause-value c = λ p ts offers fs.
    let g = c.args.g in
    let s = state_of ts c.args.state.now in
    let o = offer_of ts c.args.offer in
    if_false (offer_ready g (with_frames g fs s) o) _ _ (offer_ready_same fs g s o ∙ sym (c.offer_ready.ensures.value ts) ∙ c.if-offer_ready.false)
