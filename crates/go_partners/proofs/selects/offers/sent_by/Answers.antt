use Rattle.std.proofs.Common.{◌≤◌, ◌∙◌, ap, sym, subst, arith, drop, length, List}
use Rattle.std.specs.Prelude.{Option}
use Rattle.std.specs.Borrow.{Bor}
use Rattle.std.proofs.lemmas.List.{length-map}
use Rattle.go_type.specs.Levels.{tree_of}
use Rattle.go_type.specs.Table.{places}
use Rattle.go_core.specs.Communicate.{offer_before, offers_by}
use Rattle.go_core.specs.CoreView.{stmts_view}
use Rattle.go_core.specs.Goroutine as core
use Rattle.go_core.specs.Goroutine.{case_sends}
use Rattle.go_values.specs.ValuesSeen.{value_of, values_of}
use Rattle.go_values.specs.declared.values.scalar.Scalar.{Scalar}
use Rattle.go_state.specs.StateSeen.{offer_of}
use Rattle.go_partners.specs.Ways.{Lacks}
use Rattle.go_partners.proofs.OfferLemmas.{before_found, before_lacks, nothing, short_send, two_first, way_handed}
use Rattle.go_partners.proofs.selects.offers.sent_by.Goals as goal

pub returns-then-vs-lt2-clause-value : goal.returns-then-vs-lt2-clause-value
returns-then-vs-lt2-clause-value c = λ p g free q others.
    let ts = places c.args.c.now.table.now in
    let vs = c.args.vs.now in
    short_send p g free (tree_of ts c.args.t) (stmts_view ts c.args.body.now) (values_of ts vs) others (omega (arith, c.if-vs-lt2.true, length-map vs (λ (v : Bor (List Scalar)). value_of ts v.now)))

pub returns-in_err-offer-clause-value : goal.returns-in_err-offer-clause-value
returns-in_err-offer-clause-value c = λ p g free q.
    let ts = places c.args.c.now.table.now in
    let vs = c.args.vs.now in
    let t = tree_of ts c.args.t in
    let body = stmts_view ts c.args.body.now in
    let x = c.in_err-offer.field-0.0 in
    let l : 2 ≤ length vs = omega (arith, c.if-vs-lt2.false) in
    let two = two_first vs nothing l in
    way_handed ts vs c.from_residual.result x (λ others. offers_by p g free (case_sends t) body (values_of ts vs) others) c.from_residual.ensures.1
    (λ others.
    subst (λ (ys : List (Bor (List Scalar))). Lacks x (offers_by p g free (case_sends t) body (values_of ts ys) others)) (sym two)
    (before_lacks p g free x _ (others (values_of ts (drop 2 vs))) (c.in_err-offer.ensures.value p g free q)))

pub returns-clause-value : goal.returns-clause-value
returns-clause-value c = λ p g free q others.
    let ts = places c.args.c.now.table.now in
    let vs = c.args.vs.now in
    let t = tree_of ts c.args.t in
    let body = stmts_view ts c.args.body.now in
    let l : 2 ≤ length vs = omega (arith, c.if-vs-lt2.false) in
    let two = two_first vs nothing l in
    ap (λ (ys : List (Bor (List Scalar))). offers_by p g free (case_sends t) body (values_of ts ys) others) two
    ∙ ap (λ (o : Option core.Offer). offer_before p g free o (others (values_of ts (drop 2 vs)))) (c.in_ok-offer.ensures.value p g free q)
    ∙ before_found p g free (offer_of ts c.in_ok-offer.offer) (others (values_of ts (drop 2 vs)))
