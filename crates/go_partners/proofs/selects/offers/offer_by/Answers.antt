use Rattle.std.proofs.Common.{sym, subst, List}
use Rattle.go_type.specs.Levels.{tree_of}
use Rattle.go_type.specs.Table.{places}
use Rattle.go_core.specs.Communicate.{offers_by}
use Rattle.go_core.specs.CoreView.{stmts_view}
use Rattle.go_core.specs.Goroutine as core
use Rattle.go_core.specs.declared.node.Var.{Var}
use Rattle.go_core.specs.declared.statement.CoreCase.{out-CoreCase}
use Rattle.go_values.specs.ValuesSeen.{values_of}
use Rattle.go_state.specs.StateSeen.{vars_of}
use Rattle.go_partners.specs.Ways.{IsWay, offers_by_first}
use Rattle.go_partners.proofs.OfferLemmas.{clause_of_case}
use Rattle.go_partners.proofs.selects.offers.offer_by.Goals as goal

pub returns-in-Send-clause-value : goal.returns-in-Send-clause-value
returns-in-Send-clause-value c = λ p g free q.
    let ts = places c.args.c.now.table.now in
    subst (λ (ks : List core.Case). IsWay ts c.args.vs.now c.sent_by.result (λ others. offers_by_first (offers_by p g free) ks (values_of ts c.args.vs.now) others)) (sym (clause_of_case ts c.args.case.now _ c.in-Send.is))
    (c.sent_by.ensures.value p g free q)

pub returns-in-Receive-clause-value : goal.returns-in-Receive-clause-value
returns-in-Receive-clause-value c = λ p g free q.
    let ts = places c.args.c.now.table.now in
    let vs = c.args.vs.now in
    let t = tree_of ts c.in-Receive.channel in
    let body = stmts_view ts (out-CoreCase c.args.case.now).body in
    subst (λ (ks : List core.Case). IsWay ts vs c.received_by.result (λ others. offers_by_first (offers_by p g free) ks (values_of ts vs) others)) (sym (clause_of_case ts c.args.case.now _ c.in-Receive.is))
    (subst (λ (xs : List Var). IsWay ts vs c.received_by.result (λ others. offers_by p g free (core.case_receives t (vars_of ts xs)) body (values_of ts vs) others)) c.as_slice.ensures.value (c.received_by.ensures.value p g free q))
