use Rattle.std.proofs.Common.{ap, arith, ◌≤◌, ◌<◌, length}
use Rattle.std.specs.Prelude.{Option}
use Rattle.go_core.specs.Communicate.{offer_taken}
use Rattle.go_core.specs.Goroutine as defined
use Rattle.go_state.specs.StateSeen.{frame_of, move_of, offer_of, state_of}
use Rattle.go_state.proofs.ListsLemmas.{get_here, get_past}
use Rattle.go_partners.specs.Moves.{frames_below, with_frames}
use Rattle.go_partners.proofs.TakeLemmas.{moves_as}
use Rattle.go_partners.proofs.selects.reach.way_taken.Goals as goal

pub returns-then-way-offers-clause-value : goal.returns-then-way-offers-clause-value
returns-then-way-offers-clause-value c = λ p ts fs.
    let s = state_of ts c.args.state.now in
    let os = c.args.offers.now in
    let l : length os ≤ c.args.way = omega (arith, c.if-way-offers.true) in
    ap (λ (o : Option defined.Offer). offer_taken p c.args.g (move_of c.args.free) o (frame_of ts c.args.f.now) (frames_below c.args.g s) (with_frames c.args.g fs s)) (get_past (offer_of ts) os c.args.way l)

pub returns-clause-value : goal.returns-clause-value
returns-clause-value c = λ p ts.
    let os = c.args.offers.now in
    let l : c.args.way < length os = omega (arith, c.if-way-offers.false) in
    moves_as p ts c.args.g c.take_offer.result c.args.f.now _ c.args.state.now _ _ _
    (λ fs.
    let s = state_of ts c.args.state.now in
    ap (λ (o : Option defined.Offer). offer_taken p c.args.g (move_of c.args.free) o (frame_of ts c.args.f.now) (frames_below c.args.g s) (with_frames c.args.g fs s)) (get_here (offer_of ts) os c.args.way c.index-offers-way.result l c.index-offers-way.is))
    (c.take_offer.ensures.value p ts)
