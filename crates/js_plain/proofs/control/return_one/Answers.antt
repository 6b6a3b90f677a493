use Rattle.std.proofs.Common.{Some, refl}
use Rattle.js_pool.specs.Says as say
use Rattle.js_pool.specs.declared.node.Stmt.TheVariants as line
use Rattle.js_body.specs.State.{taken, taken_tree}
use Rattle.js_body.specs.Tells.{around, said}
use Rattle.js_body.specs.Later.{stands_later}
use Rattle.js_body.specs.StepLaws.{earlier, from_here, parts_line}
use Rattle.js_plain.specs.Control.{return_line}
use Rattle.js_plain.proofs.control.return_one.Goals as goal

pub returns : goal.returns
returns c =
    let b = c.take-e.new.self in
    let q = c.give.new.self in (
      λ end g. c.take-e.ensures.0 end (c.give.ensures.0 end g),
      λ l s t.
          let a = c.take-e.ensures.1 (earlier b.pool q c.give.ensures.0 l) s t in
          parts_line b.pool q b.stack.items b.temps b.declared.items (around b) (taken s) (line.Return (Some c.take-e.result)) (return_line (taken_tree s)) c.give.ensures l (said refl (say.give (stands_later (from_here b.pool q c.give.ensures.0 l) a.0))) a.1,
    )
