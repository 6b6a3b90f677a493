use Rattle.std.proofs.Common.{Some}
use Rattle.js_pool.specs.declared.node.Stmt.TheVariants as line
use Rattle.js_body.specs.State.{lines_since, cut_to, unlooped}
use Rattle.js_body.specs.Tells.{around}
use Rattle.js_body.specs.BlockLaws.{block_later, block_says, parts_since}
use Rattle.js_body.specs.StepLaws.{earlier, from_here, parts_line}
use Rattle.js_plain.specs.Control.{loop_line}
use Rattle.js_plain.proofs.Blocks.{loops}
use Rattle.js_plain.proofs.control.end_loop.Goals as goal

pub returns : goal.returns
returns c =
    let b = c.args.b.now in
    let p = c.close-block.new.self in
    let m = c.leave_loop.new.self in
    let q = c.forever_at.new.self in
    let mark = c.args.l.mark.0 in (
      λ end g. c.close-block.ensures.0 end (c.leave_loop.ensures.0 end (c.forever_at.ensures.0 end g)),
      λ l s t n e.
          let l2 = earlier m.pool q c.forever_at.ensures.0 l in
          let l1 = earlier p m.pool c.leave_loop.ensures.0 l2 in
          let d = parts_since b.pool p b.stack.items b.temps b.declared.items (around b) s mark c.close-block.result n c.close-block.ensures l1 t in
          let u = c.leave_loop.ensures.1 l2 (cut_to mark s) d.1 e in
          let g = from_here p q (λ end z. c.leave_loop.ensures.0 end (c.forever_at.ensures.0 end z)) l in
          parts_line m.pool q m.stack.items m.temps m.declared.items (around m) (unlooped (cut_to mark s)) (line.Forever (Some c.label_name.result) c.close-block.result) (loop_line c.args.l.end (lines_since mark s)) c.forever_at.ensures l
          (loops c.label_name.result c.args.l.end c.label_name.ensures q c.close-block.result (lines_since mark s) (block_says (block_later g d.0))) u,
    )
