use Rattle.std.proofs.Common.{◌∙◌, ap, sym, [], ◌∷◌, ◌+◌, true}
use Rattle.std.specs.Prelude.{Option, Some, None, option_map}
use Rattle.go_core.specs.Communicate.{done_with, received}
use Rattle.go_core.specs.Goroutine as defined
use Rattle.go_core.specs.Goroutine.{moved, sending, receiving}
use Rattle.go_values.specs.ValuesSeen.{value_of}
use Rattle.go_state.specs.StateSeen.{after_of, move_of, offer_of, state_of}
use Rattle.go_state.specs.declared.state.state.Offer.{Offer}
use Rattle.go_partners.proofs.FramesLemmas.{partner_other}
use Rattle.go_partners.proofs.PartnerLemmas.{from_found, from_sender, from_another, from_stops}
use Rattle.go_partners.proofs.StopLemmas.{receives_stopped}
use Rattle.go_partners.proofs.exchanges.partner.from_partner.Goals as goal

pub returns-in_err-resume-in-Sending-clause-value : goal.returns-in_err-resume-in-Sending-clause-value
returns-in_err-resume-in-Sending-clause-value c = λ ts p.
    let offered = sym (c.partner_offer.ensures.value ts) ∙ ap (λ (o : Option Offer). option_map (offer_of ts) o) (c.in-Some.is ∙ ap (λ (o : Offer). Some o) c.in-Sending.is) in
    receives_stopped ts c.args.g c.from_residual.result c.in_err-resume-in-Sending.field-0.0 c.args.state.now c.resume.new.state _ c.from_residual.ensures.1
    (from_stops p c.args.g (move_of c.args.free) ts c.args.name c.in_err-resume-in-Sending.field-0.0 c.args.state.now c.resume.new.state c.in-Sending.channel (value_of ts c.in-Sending.value.now) c.in-Sending.units (after_of ts c.in-Sending.after)
    offered (sym c.same_name.ensures.value ∙ c.if-same_name.true) (c.in_err-resume-in-Sending.ensures.value ts))

pub returns-then-same_name-clause-value : goal.returns-then-same_name-clause-value
returns-then-same_name-clause-value c = λ ts p fs n after f below u.
    let offered = sym (c.partner_offer.ensures.value ts) ∙ ap (λ (o : Option Offer). option_map (offer_of ts) o) (c.in-Some.is ∙ ap (λ (o : Offer). Some o) c.in-Sending.is) in
    let v = value_of ts c.in-Sending.value.now in
    from_sender p c.args.g (move_of c.args.free) c.args.name fs n after f below u (state_of ts c.args.state.now) c.in-Sending.channel v c.in-Sending.units (after_of ts c.in-Sending.after) offered (sym c.same_name.ensures.value ∙ c.if-same_name.true)
    ∙ ap (λ (o : Option defined.State). option_map (moved c.args.g (done_with (received n v true) after f ∷ below) (1 + u)) o) (c.in_ok-resume-in-Sending.ensures.value ts)

pub returns-else-same_name-clause-value : goal.returns-else-same_name-clause-value
returns-else-same_name-clause-value c = λ ts p fs n after f below u.
    let offered = sym (c.partner_offer.ensures.value ts) ∙ ap (λ (o : Option Offer). option_map (offer_of ts) o) (c.in-Some.is ∙ ap (λ (o : Offer). Some o) c.in-Sending.is) in
    from_another p c.args.g (move_of c.args.free) c.args.name fs n after f below u (state_of ts c.args.state.now) c.in-Sending.channel (value_of ts c.in-Sending.value.now) c.in-Sending.units (after_of ts c.in-Sending.after) offered (sym c.same_name.ensures.value ∙ c.if-same_name.false)

pub returns-in-Receiving-clause-value : goal.returns-in-Receiving-clause-value
returns-in-Receiving-clause-value c = λ ts p fs n after f below u.
    let offered = sym (c.partner_offer.ensures.value ts) ∙ ap (λ (o : Option Offer). option_map (offer_of ts) o) (c.in-Some.is ∙ ap (λ (o : Offer). Some o) c.in-Receiving.is) in
    from_found p c.args.g (move_of c.args.free) c.args.name fs n after f below u (state_of ts c.args.state.now) (Some (receiving c.in-Receiving.channel (value_of ts c.in-Receiving.zero.now) c.in-Receiving.units c.in-Receiving.values (after_of ts c.in-Receiving.after))) offered

pub returns-in-None-clause-value : goal.returns-in-None-clause-value
returns-in-None-clause-value c = λ ts p fs n after f below u.
    from_found p c.args.g (move_of c.args.free) c.args.name fs n after f below u (state_of ts c.args.state.now) None (sym (c.partner_offer.ensures.value ts) ∙ ap (λ (o : Option Offer). option_map (offer_of ts) o) c.in-None.is)

pub returns-in_err-resume-in-Sending-clause-own : goal.returns-in_err-resume-in-Sending-clause-own
returns-in_err-resume-in-Sending-clause-own c =
    let offered = sym (c.partner_offer.ensures.value []) ∙ ap (λ (o : Option Offer). option_map (offer_of []) o) (c.in-Some.is ∙ ap (λ (o : Offer). Some o) c.in-Sending.is) in
    c.in_err-resume-in-Sending.ensures.others c.args.g (partner_other c.args.g (move_of c.args.free) (state_of [] c.args.state.now) (sending c.in-Sending.channel (value_of [] c.in-Sending.value.now) c.in-Sending.units (after_of [] c.in-Sending.after)) offered)

pub returns-then-same_name-clause-own : goal.returns-then-same_name-clause-own
returns-then-same_name-clause-own c =
    let offered = sym (c.partner_offer.ensures.value []) ∙ ap (λ (o : Option Offer). option_map (offer_of []) o) (c.in-Some.is ∙ ap (λ (o : Offer). Some o) c.in-Sending.is) in
    c.in_ok-resume-in-Sending.ensures.others c.args.g (partner_other c.args.g (move_of c.args.free) (state_of [] c.args.state.now) (sending c.in-Sending.channel (value_of [] c.in-Sending.value.now) c.in-Sending.units (after_of [] c.in-Sending.after)) offered)
