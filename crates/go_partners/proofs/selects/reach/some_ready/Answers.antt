use Rattle.std.proofs.Common.{◌≡◌, ap, ◌∙◌, sym, List, map}
use Rattle.std.specs.Prelude.{Ok, Err, slice_get}
use Rattle.std.specs.Global.{Vec}
use Rattle.go_core.specs.Communicate.{frames_of, reached, way_taken}
use Rattle.go_state.specs.StateSeen.{frame_of, goroutine_of, move_of, offer_of, state_of}
use Rattle.go_state.specs.declared.state.state.Goroutine as held_goroutine
use Rattle.go_state.specs.declared.state.state.Offer as held_offer
use Rattle.go_partners.specs.Moves.{TalkStep, frames_below, with_frames}
use Rattle.go_partners.specs.Chosen.{default_of}
use Rattle.go_partners.proofs.ReachLemmas.{moves_through, talks_able, talks_stopped}
use Rattle.go_partners.proofs.selects.reach.some_ready.Goals as goal

pub returns-in_err-units-clause-value : goal.returns-in_err-units-clause-value
returns-in_err-units-clause-value c = λ p ts.
    let g = c.args.g in
    let free = move_of c.args.free in
    let w = c.args.ways.now in
    let f = frame_of ts c.args.f.now in
    let s = state_of ts c.args.state.now in
    let m = state_of ts c.choose.new.state in
    let d = default_of ts w.default in
    let offers = map (offer_of ts) w.offers.items in
    let step : TalkStep = λ x below t. reached p g free c.args.choices.now d w.units offers c.args.ready.now x below t in
    let other : TalkStep = λ x below t. way_taken p g free c.in_ok-way.way (map (offer_of ts) c.as_slice.result.now) x below t in
    let x = c.in_err-units.field-0.0 in
    let same : frames_below g m ≡ frames_below g s = ap (λ (gs : Vec held_goroutine.Goroutine). frames_of (slice_get (map (goroutine_of ts) gs.items) g)) c.in_ok-way.ensures.same in
    talks_stopped p ts g c.from_residual-in_err-units.result x c.args.f.now _ c.args.state.now _ step c.from_residual-in_err-units.ensures.1
    (moves_through p ts g (Err x) c.args.f.now _ c.args.state.now c.choose.new.state _ step other same
    (λ fs.
    c.in_ok-way.ensures.value ts p g free d offers f fs (frames_below g s)
    ∙ ap (λ (os : List held_offer.Offer). way_taken p g free c.in_ok-way.way (map (offer_of ts) os) f (frames_below g s) (with_frames g fs m)) (sym c.as_slice.ensures.value))
    (c.in_err-units.ensures.value p ts))

pub returns-clause-value : goal.returns-clause-value
returns-clause-value c = λ p ts.
    let g = c.args.g in
    let free = move_of c.args.free in
    let w = c.args.ways.now in
    let f = frame_of ts c.args.f.now in
    let s = state_of ts c.args.state.now in
    let m = state_of ts c.choose.new.state in
    let d = default_of ts w.default in
    let offers = map (offer_of ts) w.offers.items in
    let step : TalkStep = λ x below t. reached p g free c.args.choices.now d w.units offers c.args.ready.now x below t in
    let other : TalkStep = λ x below t. way_taken p g free c.in_ok-way.way (map (offer_of ts) c.as_slice.result.now) x below t in
    let same : frames_below g m ≡ frames_below g s = ap (λ (gs : Vec held_goroutine.Goroutine). frames_of (slice_get (map (goroutine_of ts) gs.items) g)) c.in_ok-way.ensures.same in
    talks_able p ts g c.able.result c.in_ok-units.units c.args.f.now c.way_taken.new.f c.args.state.now c.way_taken.new.state step c.able.ensures.value
    (moves_through p ts g (Ok c.in_ok-units.units) c.args.f.now c.way_taken.new.f c.args.state.now c.choose.new.state c.way_taken.new.state step other same
    (λ fs.
    c.in_ok-way.ensures.value ts p g free d offers f fs (frames_below g s)
    ∙ ap (λ (os : List held_offer.Offer). way_taken p g free c.in_ok-way.way (map (offer_of ts) os) f (frames_below g s) (with_frames g fs m)) (sym c.as_slice.ensures.value))
    (c.in_ok-units.ensures.value p ts))
