use Rattle.std.proofs.Common.{◌∙◌, ap, sym, map, List}
use Rattle.go_core.specs.Communicate.{any_offer, offers_of}
use Rattle.go_state.specs.StateSeen.{offer_of, waiting_of}
use Rattle.go_state.specs.declared.state.state.Offer.{Offer}
use Rattle.go_state.specs.declared.state.state.Waiting.{Waiting}
use Rattle.go_partners.specs.Sought.{test_of}
use Rattle.go_partners.proofs.partners.partners.waits_so.Goals as goal

pub returns-in-AtChannels : goal.returns-in-AtChannels
returns-in-AtChannels c = record {
  value = λ ts.
      let test = test_of c.args.side c.args.name in
      c.any_sought.ensures.value ts
      ∙ ap (λ (os : List Offer). any_offer test (map (offer_of ts) os)) c.as_slice.ensures.value
      ∙ sym (ap (λ (w : Waiting). any_offer test (offers_of (waiting_of ts w))) c.in-AtChannels.is);
}
