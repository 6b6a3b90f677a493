use Rattle.std.proofs.Common.{◌∙◌, ap, ℕ}
use Rattle.std.specs.Prelude.{Option, Some}
use Rattle.go_core.specs.Goroutine as defined
use Rattle.go_core.specs.Goroutine.{moved, with_memory}
use Rattle.go_values.specs.ValuesSeen.{value_of}
use Rattle.go_state.specs.StateSeen.{after_of, frame_of, move_of, offer_of, state_of}
use Rattle.go_core.specs.Communicate.{offer_taken}
use Rattle.go_state.specs.declared.state.state.Offer.{Offer}
use Rattle.go_partners.specs.Moves.{frames_below, with_frames}
use Rattle.go_partners.proofs.TakeLemmas.{moves_as}
use Rattle.go_partners.proofs.exchanges.take.take_offer.Goals as goal

pub returns-in-Some-clause-value : goal.returns-in-Some-clause-value
returns-in-Some-clause-value c = λ p ts.
    moves_as p ts c.args.g c.send.result c.args.f.now _ c.args.state.now _ _ _
    (λ fs.
    let s = state_of ts c.args.state.now in
    let run = λ (o : defined.Offer). offer_taken p c.args.g (move_of c.args.free) (Some o) (frame_of ts c.args.f.now) (frames_below c.args.g s) (with_frames c.args.g fs s) in
    ap (λ (o : Offer). run (offer_of ts o)) c.in-Sending.is
    ∙ ap (λ (ch : Option ℕ). run (defined.sending ch (value_of ts c.in-Sending.value.now) c.in-Sending.units (after_of ts c.in-Sending.after))) c.in-Some.is)
    (c.send.ensures.value p ts)

pub returns-in-Some-channel-clause-value : goal.returns-in-Some-channel-clause-value
returns-in-Some-channel-clause-value c = λ p ts.
    moves_as p ts c.args.g c.receive.result c.args.f.now _ c.args.state.now _ _ _
    (λ fs.
    let s = state_of ts c.args.state.now in
    let run = λ (o : defined.Offer). offer_taken p c.args.g (move_of c.args.free) (Some o) (frame_of ts c.args.f.now) (frames_below c.args.g s) (with_frames c.args.g fs s) in
    ap (λ (o : Offer). run (offer_of ts o)) c.in-Receiving.is
    ∙ ap (λ (ch : Option ℕ). run (defined.receiving ch (value_of ts c.in-Receiving.zero.now) c.in-Receiving.units c.in-Receiving.values (after_of ts c.in-Receiving.after))) c.in-Some-channel.is)
    (c.receive.ensures.value p ts)
