use Rattle.go_expr.proofs.RawLemmas.{grows_on}
use Rattle.go_expr.proofs.TypedReadyLemmas.{ready_step}
use Rattle.go_expr.proofs.typed.all.all_ready.Goals as goal

pub loop-e-preserved : goal.loop-e-preserved
loop-e-preserved c = record {
  ready = ready_step c.loop-e.env c.ready.new.env c.loop-e.all.items _ c.in_ok-gives.gives c.args.es.now c.loop-e.e-index c.e-item.result c.in_ok-gives.ensures.grows c.in_ok-push.ensures.items c.loop-e-test.true c.e-item.is
      c.loop-e.invariant.ready c.in_ok-gives.ensures.right c.in_ok-gives.ensures.ready;
  grows = grows_on _ c.loop-e.env c.ready.new.env c.loop-e.invariant.grows c.in_ok-gives.ensures.grows;
}
