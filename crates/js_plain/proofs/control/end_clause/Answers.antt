use Rattle.js_body.specs.State.{lines_since, cut_to}
use Rattle.js_body.specs.Tells.{around}
use Rattle.js_body.specs.BlockLaws.{block_later, block_says, parts_since}
use Rattle.js_body.specs.ListLaws.{parts_arm}
use Rattle.js_body.specs.StepLaws.{earlier, from_here}
use Rattle.js_plain.specs.Control.{clause_left, clause_arm}
use Rattle.js_plain.proofs.Blocks.{clause_longer}
use Rattle.js_plain.proofs.control.end_clause.Goals as goal

pub returns : goal.returns
returns c =
    let m = c.leave_clause.new.b in
    let p = c.close-block.new.self in
    let q = c.case.new.self in
    let mark = c.args.mark.0 in (
      λ end g. c.leave_clause.ensures.0 end (c.close-block.ensures.0 end (c.case.ensures.0 end g)),
      λ l s t n.
          let l2 = earlier p q c.case.ensures.0 l in
          let l1 = earlier m.pool p c.close-block.ensures.0 l2 in
          let z = clause_left c.args.c c.args.falls_through s in
          let d = parts_since m.pool p m.stack.items m.temps m.declared.items (around m) z mark c.close-block.result (clause_longer c.args.c c.args.falls_through mark s n) c.close-block.ensures l2 (c.leave_clause.ensures.1 l1 s t) in
          parts_arm p q m.stack.items m.temps m.declared.items (around m) (cut_to mark z) c.close-block.result (clause_arm c.args.n (lines_since mark z)) c.case.ensures l (block_says (block_later (from_here p q c.case.ensures.0 l) d.0)) d.1,
    )
