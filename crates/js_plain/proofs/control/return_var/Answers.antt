use Rattle.std.proofs.Common.{Some, refl}
use Rattle.js_pool.specs.Says as say
use Rattle.js_pool.specs.declared.node.Stmt.TheVariants as line
use Rattle.js_body.specs.State.{var_tree, slot_read}
use Rattle.js_body.specs.Tells.{around, said}
use Rattle.js_body.specs.Later.{stands_later}
use Rattle.js_body.specs.StepLaws.{earlier, from_here, parts_line}
use Rattle.js_plain.specs.Control.{return_line}
use Rattle.js_plain.proofs.control.return_var.Goals as goal

pub returns : goal.returns
returns c =
    let m = c.result_value-e.new.b in
    let q = c.give.new.self in
    let h = c.args.h in (
      λ end g. c.result_value-e.ensures.0 end (c.give.ensures.0 end g),
      λ l s t e.
          let a = c.result_value-e.ensures.1 (earlier m.pool q c.give.ensures.0 l) s t e in
          parts_line m.pool q m.stack.items m.temps m.declared.items (around m) (slot_read h.slot s) (line.Return (Some c.result_value-e.result)) (return_line (var_tree h s)) c.give.ensures l (said refl (say.give (stands_later (from_here m.pool q c.give.ensures.0 l) a.0))) a.1,
    )
