use Rattle.std.proofs.Common.{◌∙◌, sym, arith, map}
use Rattle.std.proofs.lemmas.List.{length-map}
use Rattle.go_state.proofs.ListsLemmas.{drop_here}
use Rattle.go_state.specs.StateSeen.{offer_of}
use Rattle.go_partners.specs.Sought.{test_of}
use Rattle.go_partners.proofs.PartnersWaitLemmas.{offer_step, offer_found, offer_end}
use Rattle.go_partners.proofs.partners.partners.any_sought.Goals as goal

pub offers-preserved : goal.offers-preserved
offers-preserved c = λ ts.
    let os = c.args.offers.now in
    let x = c.index-offers-i.result in
    offer_step (test_of c.args.side c.args.name) (map (offer_of ts) os) c.offers.i (offer_of ts x) _
    (drop_here (offer_of ts) os c.offers.i x c.offers-test.true c.index-offers-i.is)
    (sym (c.is_sought.ensures.value ts) ∙ c.if-is_sought.false) (c.offers.invariant ts)

pub returns-then-is_sought : goal.returns-then-is_sought
returns-then-is_sought c = record {
  value = λ ts.
      let os = c.args.offers.now in
      let x = c.index-offers-i.result in
      offer_found (test_of c.args.side c.args.name) (map (offer_of ts) os) c.offers.i (offer_of ts x) _
      (drop_here (offer_of ts) os c.offers.i x c.offers-test.true c.index-offers-i.is)
      (sym (c.is_sought.ensures.value ts) ∙ c.if-is_sought.true) (c.offers.invariant ts);
}

pub returns : goal.returns
returns c = record {
  value = λ ts. offer_end (test_of c.args.side c.args.name) (map (offer_of ts) c.args.offers.now) c.offers.i _ (omega (arith, c.offers-test.false, length-map c.args.offers.now (offer_of ts))) (c.offers.invariant ts);
}
