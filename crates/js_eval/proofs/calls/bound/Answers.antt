use Rattle.std.proofs.Common.{◌<◌, arith, length, append_assoc}
use Rattle.std.proofs.lemmas.List.{map-append}
use Rattle.js_eval.proofs.Listed.{bound_step}
use Rattle.js_eval.proofs.calls.bound.Goals as goal

pub bounds-values-i : goal.bounds-values-i
bounds-values-i c = omega (arith, c.loop-i.invariant.0, c.if-i-values.false)

pub loop-i-preserved : goal.loop-i-preserved
loop-i-preserved c =
    let m : c.loop-i.i < length c.args.values.now = omega (arith, c.loop-i.invariant.0, c.if-i-values.false) in
    let b = bound_step c.args.params.now c.args.values.now c.loop-i.i c.index-params-i.result c.index-values-i.result c.in_ok-value.value c.loop-i-test.true m c.index-params-i.is c.index-values-i.is c.in_ok-value.ensures.value in
    (omega arith, rw c.in_ok-push.ensures.items (rw map-append (rw append_assoc (rw (← b) c.loop-i.invariant.1))))
