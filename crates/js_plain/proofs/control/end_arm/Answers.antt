use Rattle.js_body.specs.State.{cut_to}
use Rattle.js_body.specs.Tells.{around}
use Rattle.js_body.specs.Later.{stands_later}
use Rattle.js_body.specs.BlockLaws.{block_later, parts_since}
use Rattle.js_body.specs.StepLaws.{earlier, from_here}
use Rattle.js_plain.specs.Control.{arm_left, arm_lines}
use Rattle.js_plain.proofs.Blocks.{arm_longer}
use Rattle.js_plain.proofs.control.end_arm.Goals as goal

pub returns : goal.returns
returns c =
    let b = c.args.b.now in
    let m = c.leave_chain.new.b in
    let p = c.close-arm.new.self in
    let q = c.say_where.new.b in (
      λ end g. c.leave_chain.ensures.0 end (c.close-arm.ensures.0 end (c.say_where.ensures.0 end g)),
      λ l t h s r n.
          let l2 = earlier p q.pool c.say_where.ensures.0 l in
          let l1 = earlier m.pool p c.close-arm.ensures.0 l2 in
          let a = c.leave_chain.ensures.1 l1 s r in
          let k = parts_since m.pool p m.stack.items m.temps m.declared.items (around m) (arm_left c.args.c.end s) c.args.mark.0 c.close-arm.result (arm_longer c.args.c.end c.args.mark.0 s n) c.close-arm.ensures l2 a in
          let g = from_here b.pool p (λ end z. c.leave_chain.ensures.0 end (c.close-arm.ensures.0 end z)) l2 in (
            block_later (from_here p q.pool c.say_where.ensures.0 l) k.0,
            c.say_where.ensures.1 l t (stands_later g h) (arm_lines c.args.c c.args.mark.0 s) k.0 (cut_to c.args.mark.0 (arm_left c.args.c.end s)) k.1,
          ),
    )
