use Rattle.std.proofs.Common.{◌≡◌, ℕ, suc, ◌+◌, Option, arith, ap, ◌∙◌}
use Rattle.go_core.specs.declared.node.VarId.{VarId}
use Rattle.js_body.specs.StepLaws.{earlier, parts_same}
use Rattle.js_plain.specs.Fresh.{declared_by, declared_upto, block_var}
use Rattle.js_plain.proofs.Declared.{upto_scalar}
use Rattle.js_plain.proofs.fresh.declare_each.Goals as goal

pub loop-i-preserved : goal.loop-i-preserved
loop-i-preserved c =
    let m = c.loop-i.b in
    let q = c.declare_at.new.b in
    let i = c.loop-i.i in
    let vs = c.args.fresh.now in
    let n : suc i ≡ i + 1 = omega arith in (
      λ end g. c.loop-i.invariant.0 end (c.declare_at.ensures.0 end g),
      λ l s t h.
          let z = declared_upto i vs s in
          let u = c.loop-i.invariant.1 (earlier m.pool q.pool c.declare_at.ensures.0 l) s t h in
          let e = c.var_at-v.ensures in
          let d = c.declare_at.ensures.1 l z u (ap (λ (o : Option VarId). block_var o z.around.facts) e ∙ upto_scalar vs s h i) in
          parts_same _ _ _ _ _ _ _ _ (ap (λ (o : Option VarId). declared_by o z) e ∙ ap (λ (k : ℕ). declared_upto k vs s) n) d,
    )
