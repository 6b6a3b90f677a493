use Rattle.std.proofs.Common.{◌≡◌, ℕ, suc, ◌+◌, arith, subst}
use Rattle.js_pool.specs.Stands.{opened}
use Rattle.js_body.specs.State.{settled_upto}
use Rattle.js_body.specs.Tells.{around, PartsTell}
use Rattle.js_body.specs.StepLaws.{earlier}
use Rattle.js_body.proofs.body.Body.settle_variables.Goals as goal

pub loop-i-preserved : goal.loop-i-preserved
loop-i-preserved c =
    let m = c.loop-i.self in
    let q = c.settle_at.new.self in
    let e : suc c.loop-i.i ≡ c.loop-i.i + 1 = omega arith in (
      λ end g. c.loop-i.invariant.0 end (c.settle_at.ensures.0 end g),
      λ l s t.
          let k = earlier m.pool q.pool c.settle_at.ensures.0 l in
          subst (λ (n : ℕ). PartsTell q.pool (opened q.pool) q.stack.items q.temps q.declared.items (around q) (settled_upto n s)) e (c.settle_at.ensures.1 l (settled_upto c.loop-i.i s) (c.loop-i.invariant.1 k s t)),
    )
