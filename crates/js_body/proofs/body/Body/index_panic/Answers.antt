use Rattle.std.proofs.Common.{refl}
use Rattle.js_pool.specs.Says as say
use Rattle.js_pool.specs.declared.node.Stmt.TheVariants as line
use Rattle.js_body.specs.State.{told_tree, index_line}
use Rattle.js_body.specs.Tells.{around, said}
use Rattle.js_body.specs.Later.{stands_later}
use Rattle.js_body.specs.StepLaws.{earlier, from_here, keeps_then, parts_kept, parts_line}
use Rattle.js_body.proofs.body.Body.index_panic.Goals as goal

pub returns : goal.returns
returns c =
    let b = c.args.self.now in
    let p1 = c.told-told.new.p in
    let p2 = c.call2-call.new.self in
    let q = c.perform.new.self in (
      λ end g. c.told-told.ensures.0.0 end (c.call2-call.ensures.0.0 end (c.perform.ensures.0 end g)),
      λ l t u h k s r.
          let m = earlier p2 q c.perform.ensures.0 l in
          let d = keeps_then b.pool p1 p2 c.told-told.ensures.0 c.call2-call.ensures.0 in
          let a = parts_kept b.pool p2 b.stack.items b.temps b.declared.items (around b) s d m r in
          let g2 = from_here p2 q c.perform.ensures.0 l in
          let g1 = from_here p1 q (λ end z. c.call2-call.ensures.0.0 end (c.perform.ensures.0 end z)) l in
          let g0 = from_here b.pool q (λ end z. d.0 end (c.perform.ensures.0 end z)) l in
          let e = c.told-told.ensures.1 q g1 t (stands_later g0 h) in
          let f = c.call2-call.ensures.1 q g2 (told_tree c.args.kind t) u e (stands_later g0 k) in
          parts_line p2 q b.stack.items b.temps b.declared.items (around b) s (line.Perform c.call2-call.result) (index_line c.args.kind t u) c.perform.ensures l (said refl (say.perform f)) a,
    )
