use Rattle.std.proofs.Common.{◌∙◌, sym, arith, map}
use Rattle.std.proofs.lemmas.List.{length-map}
use Rattle.go_state.proofs.ListsLemmas.{drop_here}
use Rattle.go_state.specs.StateSeen.{offer_of, state_of}
use Rattle.go_partners.proofs.ReadyLemmas.{any_step, any_found, any_end}
use Rattle.go_partners.proofs.partners.ready.any_ready.Goals as goal

pub offers-preserved : goal.offers-preserved
offers-preserved c = λ ts.
    let os = c.args.offers.now in
    let x = c.index-offers-i.result in
    any_step c.args.g (state_of ts c.args.state.now) (map (offer_of ts) os) c.offers.i (offer_of ts x) _
    (drop_here (offer_of ts) os c.offers.i x c.offers-test.true c.index-offers-i.is)
    (sym (c.offer_ready.ensures.value ts) ∙ c.if-offer_ready.false) (c.offers.invariant ts)

pub returns-then-offer_ready : goal.returns-then-offer_ready
returns-then-offer_ready c = record {
  value = λ ts.
      let os = c.args.offers.now in
      let x = c.index-offers-i.result in
      any_found c.args.g (state_of ts c.args.state.now) (map (offer_of ts) os) c.offers.i (offer_of ts x) _
      (drop_here (offer_of ts) os c.offers.i x c.offers-test.true c.index-offers-i.is)
      (sym (c.offer_ready.ensures.value ts) ∙ c.if-offer_ready.true) (c.offers.invariant ts);
}

pub returns : goal.returns
returns c = record {
  value = λ ts. any_end c.args.g (state_of ts c.args.state.now) (map (offer_of ts) c.args.offers.now) c.offers.i _ (omega (arith, c.offers-test.false, length-map c.args.offers.now (offer_of ts))) (c.offers.invariant ts);
}
