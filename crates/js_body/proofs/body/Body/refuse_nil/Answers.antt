use Rattle.js_tree.specs.declared.tree.BinaryOp.TheVariants.{Same}
use Rattle.js_pool.specs.Tree as tree
use Rattle.js_body.specs.Tells.{around}
use Rattle.js_body.specs.Later.{itself, stands_later}
use Rattle.js_body.specs.StepLaws.{earlier, from_here, keeps_then, parts_kept}
use Rattle.js_body.proofs.body.Body.refuse_nil.Goals as goal

pub returns : goal.returns
returns c =
    let b = c.args.self.now in
    let p1 = c.null-null.new.self in
    let p2 = c.same-test.new.self in
    let q = c.panic_if.new.self in (
      λ end g. c.null-null.ensures.0.0 end (c.same-test.ensures.0.0 end (c.panic_if.ensures.0 end g)),
      λ l t h s r.
          let m = earlier p2 q.pool c.panic_if.ensures.0 l in
          let k = keeps_then b.pool p1 p2 c.null-null.ensures.0 c.same-test.ensures.0 in
          let g1 = from_here p1 p2 c.same-test.ensures.0.0 m in
          let g0 = from_here b.pool p2 k.0 m in
          let e = c.same-test.ensures.1 p2 (itself p2 m) t tree.null (stands_later g0 h) (c.null-null.ensures.1 p2 g1) in
          c.panic_if.ensures.1 l (tree.binary Same t tree.null) e s (parts_kept b.pool p2 b.stack.items b.temps b.declared.items (around b) s k m r),
    )
