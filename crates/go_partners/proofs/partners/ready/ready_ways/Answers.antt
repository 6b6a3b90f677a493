use Rattle.std.proofs.Common.{[], ◌∷◌, ◌≡◌, ◌∙◌, ap, sym, arith, map, drop, List, ℕ, ◌++◌, ◌+◌, append-nil}
use Rattle.std.proofs.lemmas.List.{length-map, drop_all}
use Rattle.go_core.specs.Communicate.{ready_ways}
use Rattle.go_core.specs.Goroutine as defined
use Rattle.go_state.proofs.ListsLemmas.{drop_here}
use Rattle.go_state.specs.StateSeen.{offer_of, state_of}
use Rattle.go_partners.proofs.ReadyLemmas.{ways_step, ways_past}
use Rattle.go_partners.proofs.partners.ready.ready_ways.Goals as goal
use Rattle.go_partners.proofs.partners.ready.ready_ways.Goals.{then-offer_ready+in_ok-push, else-offer_ready}

pub offers-preserved : goal.offers-preserved
offers-preserved c =
    elim c.if-offer_ready.branch [
      | then-offer_ready+in_ok-push w ↦ λ ts.
          let os = c.args.offers.now in
          let i = c.offers.i in
          let x = c.index-offers-i.result in
          let s = state_of ts c.args.state.now in
          let e : c.if-offer_ready.ways.items ≡ c.offers.ways.items ++ i ∷ [] = ap (λ (v : _). v.items) w.ways-is ∙ w.in_ok-push.ensures.items in
          ap (λ (ws : List ℕ). ws ++ ready_ways c.args.g s (i + 1) (drop (i + 1) (map (offer_of ts) os))) e
          ∙ ways_step c.args.g s (map (offer_of ts) os) i (offer_of ts x) c.offers.ways.items _
          (drop_here (offer_of ts) os i x c.offers-test.true c.index-offers-i.is)
          (sym (c.offer_ready.ensures.value ts) ∙ w.if-offer_ready.true) (c.offers.invariant ts)
      | else-offer_ready w ↦ λ ts.
          let os = c.args.offers.now in
          let i = c.offers.i in
          let x = c.index-offers-i.result in
          let s = state_of ts c.args.state.now in
          ap (λ (ws : _). ws.items ++ ready_ways c.args.g s (i + 1) (drop (i + 1) (map (offer_of ts) os))) w.ways-is
          ∙ ways_past c.args.g s (map (offer_of ts) os) i (offer_of ts x) c.offers.ways.items _
          (drop_here (offer_of ts) os i x c.offers-test.true c.index-offers-i.is)
          (sym (c.offer_ready.ensures.value ts) ∙ w.if-offer_ready.false) (c.offers.invariant ts)
    ]

pub returns : goal.returns
returns c = record {
  value = λ ts.
      let os = map (offer_of ts) c.args.offers.now in
      let s = state_of ts c.args.state.now in
      sym (ap (λ (zs : List defined.Offer). c.offers.ways.items ++ ready_ways c.args.g s c.offers.i zs) (drop_all c.offers.i os (omega (arith, c.offers-test.false, length-map c.args.offers.now (offer_of ts)))) ∙ append-nil c.offers.ways.items)
      ∙ c.offers.invariant ts;
}
