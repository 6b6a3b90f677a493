use Rattle.std.proofs.Common.{◌∙◌, ap, sym, []}
use Rattle.std.specs.Prelude.{Option, Some, None, option_map}
use Rattle.go_core.specs.Goroutine.{sending, receiving}
use Rattle.go_values.specs.ValuesSeen.{value_of}
use Rattle.go_state.specs.StateSeen.{after_of, move_of, offer_of, state_of}
use Rattle.go_state.specs.declared.state.state.Offer.{Offer}
use Rattle.go_partners.proofs.FramesLemmas.{partner_other}
use Rattle.go_partners.proofs.PartnerLemmas.{to_found, to_another, to_goes}
use Rattle.go_partners.proofs.exchanges.partner.to_partner.Goals as goal

pub returns-then-same_name-clause-value : goal.returns-then-same_name-clause-value
returns-then-same_name-clause-value c = λ ts p.
    let offered = sym (c.partner_offer.ensures.value ts) ∙ ap (λ (o : Option Offer). option_map (offer_of ts) o) (c.in-Some.is ∙ ap (λ (o : Offer). Some o) c.in-Receiving.is) in
    to_goes p c.args.g (move_of c.args.free) ts c.args.name (value_of ts c.args.x.now) c.partner_receives.result c.args.state.now c.partner_receives.new.state c.in-Receiving.channel (value_of ts c.in-Receiving.zero.now) c.in-Receiving.units c.in-Receiving.values (after_of ts c.in-Receiving.after)
    offered (sym c.same_name.ensures.value ∙ c.if-same_name.true) (c.partner_receives.ensures.value ts)

pub returns-else-same_name-clause-value : goal.returns-else-same_name-clause-value
returns-else-same_name-clause-value c = λ ts p fs gs units.
    let offered = sym (c.partner_offer.ensures.value ts) ∙ ap (λ (o : Option Offer). option_map (offer_of ts) o) (c.in-Some.is ∙ ap (λ (o : Offer). Some o) c.in-Receiving.is) in
    to_another p c.args.g (move_of c.args.free) c.args.name (value_of ts c.args.x.now) fs gs units (state_of ts c.args.state.now) c.in-Receiving.channel (value_of ts c.in-Receiving.zero.now) c.in-Receiving.units c.in-Receiving.values (after_of ts c.in-Receiving.after)
    offered (sym c.same_name.ensures.value ∙ c.if-same_name.false)

pub returns-in-Sending-clause-value : goal.returns-in-Sending-clause-value
returns-in-Sending-clause-value c = λ ts p fs gs units.
    let offered = sym (c.partner_offer.ensures.value ts) ∙ ap (λ (o : Option Offer). option_map (offer_of ts) o) (c.in-Some.is ∙ ap (λ (o : Offer). Some o) c.in-Sending.is) in
    to_found p c.args.g (move_of c.args.free) c.args.name (value_of ts c.args.x.now) fs gs units (state_of ts c.args.state.now) (Some (sending c.in-Sending.channel (value_of ts c.in-Sending.value.now) c.in-Sending.units (after_of ts c.in-Sending.after))) offered

pub returns-in-None-clause-value : goal.returns-in-None-clause-value
returns-in-None-clause-value c = λ ts p fs gs units.
    to_found p c.args.g (move_of c.args.free) c.args.name (value_of ts c.args.x.now) fs gs units (state_of ts c.args.state.now) None (sym (c.partner_offer.ensures.value ts) ∙ ap (λ (o : Option Offer). option_map (offer_of ts) o) c.in-None.is)

pub returns-then-same_name-clause-own : goal.returns-then-same_name-clause-own
returns-then-same_name-clause-own c =
    let offered = sym (c.partner_offer.ensures.value []) ∙ ap (λ (o : Option Offer). option_map (offer_of []) o) (c.in-Some.is ∙ ap (λ (o : Offer). Some o) c.in-Receiving.is) in
    c.partner_receives.ensures.others c.args.g (partner_other c.args.g (move_of c.args.free) (state_of [] c.args.state.now) (receiving c.in-Receiving.channel (value_of [] c.in-Receiving.zero.now) c.in-Receiving.units c.in-Receiving.values (after_of [] c.in-Receiving.after)) offered)
