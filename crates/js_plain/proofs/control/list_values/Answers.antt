use Rattle.std.proofs.Common.{◌≡◌, ℕ, suc, ◌+◌, arith, ap}
use Rattle.js_body.specs.StepLaws.{earlier, parts_same}
use Rattle.js_plain.specs.Control.{values_upto}
use Rattle.js_plain.proofs.control.list_values.Goals as goal

pub loop-i-preserved : goal.loop-i-preserved
loop-i-preserved c =
    let m = c.loop-i.b in
    let q = c.list_value.new.b in
    let e : suc c.loop-i.i ≡ c.loop-i.i + 1 = omega arith in (
      λ end g. c.loop-i.invariant.0 end (c.list_value.ensures.0 end g),
      λ l s t. parts_same _ _ _ _ _ _ _ _ (ap (λ (n : ℕ). values_upto n s) e) (c.list_value.ensures.1 l (values_upto c.loop-i.i s) (c.loop-i.invariant.1 (earlier m.pool q.pool c.list_value.ensures.0 l) s t)),
    )
