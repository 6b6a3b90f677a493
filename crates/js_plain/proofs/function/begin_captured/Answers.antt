use Rattle.std.proofs.Common.{codes}
use Rattle.js_pool.specs.Tree as tree
use Rattle.js_body.specs.Tells.{around}
use Rattle.js_body.specs.Later.{itself}
use Rattle.js_body.specs.StepLaws.{earlier, from_here, parts_kept}
use Rattle.js_plain.proofs.function.begin_captured.Goals as goal

pub returns : goal.returns
returns c =
    let b = c.args.b.now in
    let p = c.name-held.new.self in
    let m = c.at-e.new.self in
    let q = c.begin_slot.new.self in (
      λ end g. c.name-held.ensures.0.0 end (c.at-e.ensures.0.0 end (c.begin_slot.ensures.0 end g)),
      λ l s t.
          let l2 = earlier m q.pool c.begin_slot.ensures.0 l in
          let l1 = earlier p m c.at-e.ensures.0.0 l2 in
          let u = parts_kept b.pool p b.stack.items b.temps b.declared.items (around b) s c.name-held.ensures.0 l1 t in
          let v = parts_kept p m b.stack.items b.temps b.declared.items (around b) s c.at-e.ensures.0 l2 u in
          let e = c.at-e.ensures.1 m (itself m l2) (tree.name (codes "$c")) (c.name-held.ensures.1 m (from_here p m c.at-e.ensures.0.0 l2)) in
          c.begin_slot.ensures.1 l (tree.index (tree.name (codes "$c")) (tree.number c.args.n)) e s v,
    )
