use Rattle.std.proofs.Common.{◌≡◌, ap, get_or, ◌∙◌, sym, arith, map}
use Rattle.std.proofs.lemmas.List.{length-map}
use Rattle.go_state.proofs.ListsLemmas.{drop_here}
use Rattle.go_state.specs.StateSeen.{goroutine_of}
use Rattle.go_state.specs.declared.state.state.Goroutine.{Goroutine}
use Rattle.go_partners.specs.Sought.{test_of}
use Rattle.go_partners.proofs.PartnersWaitLemmas.{partner_step, partner_found, partner_end}
use Rattle.go_partners.proofs.partners.partners.has_partner.Goals as goal

pub goroutines-preserved : goal.goroutines-preserved
goroutines-preserved c = λ ts.
    let xs = c.args.goroutines.now in
    let x = get_or xs c.goroutines.i c.index-goroutines-i.result in
    let there : x ≡ get_or xs c.goroutines.i x = ap (λ (y : Goroutine). get_or xs c.goroutines.i y) c.index-goroutines-i.is in
    partner_step (test_of c.args.side c.args.name) c.args.g (map (goroutine_of ts) xs) c.goroutines.i (goroutine_of ts x) _
    (drop_here (goroutine_of ts) xs c.goroutines.i x c.goroutines-test.true there)
    (sym (c.is_partner.ensures.value ts) ∙ c.if-is_partner.false) (c.goroutines.invariant ts)

pub returns-then-is_partner : goal.returns-then-is_partner
returns-then-is_partner c = record {
  value = λ ts.
      let xs = c.args.goroutines.now in
      let x = get_or xs c.goroutines.i c.index-goroutines-i.result in
      let there : x ≡ get_or xs c.goroutines.i x = ap (λ (y : Goroutine). get_or xs c.goroutines.i y) c.index-goroutines-i.is in
      partner_found (test_of c.args.side c.args.name) c.args.g (map (goroutine_of ts) xs) c.goroutines.i (goroutine_of ts x) _
      (drop_here (goroutine_of ts) xs c.goroutines.i x c.goroutines-test.true there)
      (sym (c.is_partner.ensures.value ts) ∙ c.if-is_partner.true) (c.goroutines.invariant ts);
}

pub returns : goal.returns
returns c = record {
  value = λ ts. partner_end (test_of c.args.side c.args.name) c.args.g (map (goroutine_of ts) c.args.goroutines.now) c.goroutines.i _ (omega (arith, c.goroutines-test.false, length-map c.args.goroutines.now (goroutine_of ts))) (c.goroutines.invariant ts);
}
