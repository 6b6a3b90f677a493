use Rattle.std.proofs.Common.{◌≡◌, ℕ, suc, ◌+◌, Option, arith, ap, ◌∙◌}
use Rattle.js_body.specs.declared.body.Home.{Home}
use Rattle.js_body.specs.StepLaws.{earlier, parts_same}
use Rattle.js_plain.specs.Control.{result_listed, results_upto, block_held}
use Rattle.js_plain.proofs.Returns.{upto_scalar}
use Rattle.js_plain.proofs.control.list_results.Goals as goal

pub loop-i-preserved : goal.loop-i-preserved
loop-i-preserved c =
    let m = c.loop-i.b in
    let q = c.list_result.new.b in
    let i = c.loop-i.i in
    let n : suc i ≡ i + 1 = omega arith in (
      λ end g. c.loop-i.invariant.0 end (c.list_result.ensures.0 end g),
      λ l s t h.
          let z = results_upto i s in
          let u = c.loop-i.invariant.1 (earlier m.pool q.pool c.list_result.ensures.0 l) s t h in
          let e = c.result_at-h.ensures z u in
          let d = c.list_result.ensures.1 l z u (ap (λ (o : Option Home). block_held o z.around.facts) e ∙ upto_scalar s h i) in
          parts_same _ _ _ _ _ _ _ _ (ap (λ (o : Option Home). result_listed o z) e ∙ ap (λ (k : ℕ). results_upto k s) n) d,
    )
