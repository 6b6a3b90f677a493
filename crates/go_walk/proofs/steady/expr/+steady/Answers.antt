use Rattle.std.proofs.Common.{sym, subst, refl, ◌+◌, drop}
use Rattle.go_walk.specs.Steady.{AreSteady, AreSteadyTypes}
use Rattle.go_walk.proofs.NodeLemmas.{steady_more, steady_Read, steady_Call, next_at}
use Rattle.go_walk.proofs.steady.expr.+steady.Goals as goal

pub are_steady-loop-e-preserved : goal.are_steady-loop-e-preserved
are_steady-loop-e-preserved t c = λ h.
    let es = c.args.es.now in
    let e = c.e-item.result in
    c.loop-e.invariant
    (subst (AreSteady c.args.count) (sym (next_at es c.loop-e.e-index e c.loop-e-test.true c.e-item.is))
    (steady_more c.args.count e (drop (c.loop-e.e-index + 1) es) (c.if-not-is_steady.ensures.steady refl) h))

pub is_steady-returns-in-Read : goal.is_steady-returns-in-Read
is_steady-returns-in-Read t c = record {
  steady = λ p.
      let q = c.both.ensures.both p in
      steady_Read c.args.count c.args.e.now c.deref.result.now c.in-Read.ty c.in-Read.place c.deref.ensures c.in-Read.is (c.is_below-in-Read.ensures.below q.0) (c.place_is_steady.ensures.steady q.1);
}

pub is_steady-returns-in-Call : goal.is_steady-returns-in-Call
is_steady-returns-in-Call t c = record {
  steady = λ p.
      let q = c.both-in-Call-2.ensures.both p in
      let r = c.both-in-Call.ensures.both q.0 in
      steady_Call c.args.count c.args.e.now c.deref.result.now c.in-Call.results c.in-Call.callee c.in-Call.operands c.deref.ensures c.in-Call.is
      (subst (AreSteadyTypes c.args.count) c.as_slice-in-Call.ensures (c.types_are_steady-us.ensures.steady r.0)) (c.callee_is_steady.ensures.steady r.1)
      (subst (AreSteady c.args.count) c.as_slice.ensures.value (c.are_steady-xs.ensures.steady q.1));
}
