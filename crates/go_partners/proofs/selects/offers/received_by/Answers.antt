use Rattle.std.proofs.Common.{◌≡◌, ◌≤◌, ◌∙◌, ap, sym, subst, arith, drop, get_or, length, List}
use Rattle.std.specs.Prelude.{Option}
use Rattle.std.specs.Borrow.{Bor}
use Rattle.std.proofs.lemmas.Bool.Decides.{nat_tests}
use Rattle.std.proofs.lemmas.List.{length-map}
use Rattle.go_type.specs.Levels.{tree_of}
use Rattle.go_type.specs.Table.{places}
use Rattle.go_core.specs.Communicate.{named_channel, offer_before, offers_by}
use Rattle.go_core.specs.CoreView.{stmts_view}
use Rattle.go_core.specs.Goroutine as core
use Rattle.go_core.specs.Goroutine.{case_receives}
use Rattle.go_values.specs.ValuesSeen.{value_of, values_of}
use Rattle.go_values.specs.declared.values.scalar.Scalar.{Scalar}
use Rattle.go_state.specs.StateSeen.{offer_of, vars_of}
use Rattle.go_partners.specs.Ways.{Lacks}
use Rattle.go_partners.proofs.OfferLemmas.{before_found, before_lacks, nothing, one_first, received_offer, short_receive, way_handed}
use Rattle.go_partners.proofs.selects.offers.received_by.Goals as goal

pub returns-then-is_empty-clause-value : goal.returns-then-is_empty-clause-value
returns-then-is_empty-clause-value c = λ p g free q others.
    let ts = places c.args.c.now.table.now in
    let vs = c.args.vs.now in
    let none : length vs ≡ 0 = grind (arith, nat_tests, c.is_empty.ensures, c.if-is_empty.true) in
    short_receive p g free (tree_of ts c.args.t) (vars_of ts c.args.after.vars.now) (stmts_view ts c.args.after.body.now) (values_of ts vs) others (length-map vs (λ (v : Bor (List Scalar)). value_of ts v.now) ∙ none)

pub returns-in_err-offer-clause-value : goal.returns-in_err-offer-clause-value
returns-in_err-offer-clause-value c = λ p g free q.
    let ts = places c.args.c.now.table.now in
    let vs = c.args.vs.now in
    let t = tree_of ts c.args.t in
    let vars = c.args.after.vars.now in
    let body = stmts_view ts c.args.after.body.now in
    let x = c.in_err-offer.field-0.0 in
    let l : 1 ≤ length vs = grind (arith, nat_tests, c.is_empty.ensures, c.if-is_empty.false) in
    let one = one_first vs nothing l in
    way_handed ts vs c.from_residual.result x (λ others. offers_by p g free (case_receives t (vars_of ts vars)) body (values_of ts vs) others) c.from_residual.ensures.1
    (λ others.
    subst (λ (ys : List (Bor (List Scalar))). Lacks x (offers_by p g free (case_receives t (vars_of ts vars)) body (values_of ts ys) others)) (sym one)
    (subst (λ (o : Option core.Offer). Lacks x (offer_before p g free o (others (values_of ts (drop 1 vs))))) (sym (received_offer p g free ts t vars body (named_channel (value_of ts (get_or vs 0 nothing).now))))
    (before_lacks p g free x _ (others (values_of ts (drop 1 vs))) (c.in_err-offer.ensures.value p g free q))))

pub returns-clause-value : goal.returns-clause-value
returns-clause-value c = λ p g free q others.
    let ts = places c.args.c.now.table.now in
    let vs = c.args.vs.now in
    let t = tree_of ts c.args.t in
    let vars = c.args.after.vars.now in
    let body = stmts_view ts c.args.after.body.now in
    let l : 1 ≤ length vs = grind (arith, nat_tests, c.is_empty.ensures, c.if-is_empty.false) in
    let one = one_first vs nothing l in
    let rest = others (values_of ts (drop 1 vs)) in
    ap (λ (ys : List (Bor (List Scalar))). offers_by p g free (case_receives t (vars_of ts vars)) body (values_of ts ys) others) one
    ∙ ap (λ (o : Option core.Offer). offer_before p g free o rest) (received_offer p g free ts t vars body (named_channel (value_of ts (get_or vs 0 nothing).now)) ∙ c.in_ok-offer.ensures.value p g free q)
    ∙ before_found p g free (offer_of ts c.in_ok-offer.offer) rest
