use Rattle.std.proofs.Common.{refl}
use Rattle.js_pool.specs.Says as say
use Rattle.js_pool.specs.declared.node.Stmt.TheVariants as line
use Rattle.js_body.specs.State.{panic_line}
use Rattle.js_body.specs.Tells.{around, said}
use Rattle.js_body.specs.Later.{itself, stands_later}
use Rattle.js_body.specs.StepLaws.{earlier, from_here, parts_kept, parts_line}
use Rattle.js_body.proofs.body.Body.panic_with.Goals as goal

pub returns : goal.returns
returns c =
    let b = c.args.self.now in
    let p = c.call1-call.new.self in
    let q = c.perform.new.self in (
      λ end g. c.call1-call.ensures.0.0 end (c.perform.ensures.0 end g),
      λ l t h s r.
          let m = earlier p q c.perform.ensures.0 l in
          let a = parts_kept b.pool p b.stack.items b.temps b.declared.items (around b) s c.call1-call.ensures.0 m r in
          let g = c.perform.ensures.0 q (itself q l) in
          let old = from_here b.pool q (λ end k. c.call1-call.ensures.0.0 end (c.perform.ensures.0 end k)) l in
          parts_line p q b.stack.items b.temps b.declared.items (around b) s (line.Perform c.call1-call.result) (panic_line t) c.perform.ensures l (said refl (say.perform (c.call1-call.ensures.1 q g t (stands_later old h)))) a,
    )
