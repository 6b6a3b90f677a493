use Rattle.std.proofs.Common.{◌≡◌, ap, ◌∙◌, sym, arith, ℕ, List, [], map}
use Rattle.std.proofs.lemmas.List.{nil_from_length}
use Rattle.std.proofs.lemmas.Bool.{eqb-true}
use Rattle.go_core.specs.Communicate as defined
use Rattle.go_core.specs.Communicate.{reached, ready_ways}
use Rattle.go_state.specs.StateSeen.{frame_of, move_of, offer_of, state_of}
use Rattle.go_state.specs.declared.state.state.Offer as held_offer
use Rattle.go_partners.specs.Moves.{TalkStep, frames_below, with_frames}
use Rattle.go_partners.proofs.FramesLemmas.{ready_ways_same}
use Rattle.go_partners.specs.Chosen.{default_of}
use Rattle.go_partners.proofs.ReachLemmas.{talks_from}
use Rattle.go_partners.proofs.selects.reach.reach.Goals as goal

pub returns-then-is_empty-clause-value : goal.returns-then-is_empty-clause-value
returns-then-is_empty-clause-value c = λ p ts.
    let g = c.args.g in
    let free = move_of c.args.free in
    let w = c.args.ways in
    let s = state_of ts c.args.state.now in
    let d = default_of ts w.default in
    let offers = map (offer_of ts) w.offers.items in
    let ready = c.in_ok-ready.ready.items in
    let held = c.in_ok-ready.ready.ok.0 in
    let zero = eqb-true _ _ (sym c.is_empty.ensures ∙ c.if-is_empty.true) in
    let nil : ready ≡ [] = nil_from_length ready (omega (arith, zero, held)) in
    let step : TalkStep = λ x below t. defined.reach p g free c.args.choices.now d w.units offers x below t in
    let other : TalkStep = λ x below t. reached p g free c.args.choices.now d w.units offers [] x below t in
    talks_from p ts g c.none_ready.result c.args.f.now c.args.f.now _ c.args.state.now c.args.state.now step other
    (λ fs.
    ap (λ (ws : List ℕ). reached p g free c.args.choices.now d w.units offers ws (frame_of ts c.args.f.now) (frames_below g s) (with_frames g fs s))
    (ready_ways_same fs g s 0 offers ∙ sym (ap (λ (os : List held_offer.Offer). ready_ways g s 0 (map (offer_of ts) os)) c.as_slice.ensures.value) ∙ sym (c.in_ok-ready.ensures.value ts) ∙ nil))
    (c.none_ready.ensures.value p ts c.args.state.now g free c.args.choices.now)

pub returns-clause-value : goal.returns-clause-value
returns-clause-value c = λ p ts.
    let g = c.args.g in
    let free = move_of c.args.free in
    let w = c.args.ways in
    let s = state_of ts c.args.state.now in
    let d = default_of ts w.default in
    let offers = map (offer_of ts) w.offers.items in
    let step : TalkStep = λ x below t. defined.reach p g free c.args.choices.now d w.units offers x below t in
    let other : TalkStep = λ x below t. reached p g free c.args.choices.now d w.units offers c.as_slice-2.result.now x below t in
    talks_from p ts g c.some_ready.result c.args.f.now c.args.f.now _ c.args.state.now _ step other
    (λ fs.
    ap (λ (ws : List ℕ). reached p g free c.args.choices.now d w.units offers ws (frame_of ts c.args.f.now) (frames_below g s) (with_frames g fs s))
    (ready_ways_same fs g s 0 offers ∙ sym (ap (λ (os : List held_offer.Offer). ready_ways g s 0 (map (offer_of ts) os)) c.as_slice.ensures.value) ∙ sym (c.in_ok-ready.ensures.value ts) ∙ sym c.as_slice-2.ensures.value))
    (c.some_ready.ensures.value p ts)
