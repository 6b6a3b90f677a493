use Rattle.js_body.specs.State.{outside_tree}
use Rattle.js_body.specs.Tells.{around}
use Rattle.js_body.specs.Later.{itself, stands_later}
use Rattle.js_body.specs.StepLaws.{earlier, from_here, parts_kept}
use Rattle.js_body.proofs.body.Body.refuse_outside.Goals as goal

pub returns : goal.returns
returns c =
    let b = c.args.self.now in
    let p = c.is_outside-test.new.p in
    let q = c.index_panic_if.new.self in (
      λ end g. c.is_outside-test.ensures.0.0 end (c.index_panic_if.ensures.0 end g),
      λ l t u h k s r.
          let m = earlier p q.pool c.index_panic_if.ensures.0 l in
          let g = from_here b.pool p c.is_outside-test.ensures.0.0 m in
          let e = c.is_outside-test.ensures.1 p (itself p m) t u (stands_later g h) (stands_later g k) in
          c.index_panic_if.ensures.1 l (outside_tree c.args.kind t u) t u e (stands_later g h) (stands_later g k) s (parts_kept b.pool p b.stack.items b.temps b.declared.items (around b) s c.is_outside-test.ensures.0 m r),
    )
