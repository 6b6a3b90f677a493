use Rattle.js_tree.specs.declared.tree.UnaryOp.TheVariants.{Not}
use Rattle.js_pool.specs.Tree as tree
use Rattle.js_body.specs.State.{taken, taken_tree}
use Rattle.js_body.specs.Tells.{around}
use Rattle.js_body.specs.Later.{itself, stands_later}
use Rattle.js_body.specs.StepLaws.{earlier, from_here, parts_kept}
use Rattle.js_plain.proofs.control.leave_unless.Goals as goal

pub returns : goal.returns
returns c =
    let b = c.take-c.new.self in
    let p = c.not-test.new.self in
    let q = c.leave_where.new.b in (
      λ end g. c.take-c.ensures.0 end (c.not-test.ensures.0.0 end (c.leave_where.ensures.0 end g)),
      λ l s t.
          let m2 = earlier p q.pool c.leave_where.ensures.0 l in
          let m1 = earlier b.pool p c.not-test.ensures.0.0 m2 in
          let a = c.take-c.ensures.1 m1 s t in
          let g = from_here b.pool p c.not-test.ensures.0.0 m2 in
          c.leave_where.ensures.1 l (tree.unary Not (taken_tree s)) (c.not-test.ensures.1 p (itself p m2) (taken_tree s) (stands_later g a.0)) (taken s)
          (parts_kept b.pool p b.stack.items b.temps b.declared.items (around b) (taken s) c.not-test.ensures.0 m2 a.1),
    )
