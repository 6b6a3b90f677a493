use Rattle.js_pool.specs.Tree as tree
use Rattle.js_body.specs.Tells.{around}
use Rattle.js_body.specs.Later.{itself}
use Rattle.js_body.specs.StepLaws.{earlier, parts_kept}
use Rattle.js_plain.proofs.control.set_chosen.Goals as goal

pub returns : goal.returns
returns c =
    let b = c.args.b.now in
    let p = c.num-e.new.self in
    let q = c.scratch.new.self in (
      λ end g. c.num-e.ensures.0.0 end (c.scratch.ensures.0 end g),
      λ l s t.
          let m = earlier p q.pool c.scratch.ensures.0 l in
          c.scratch.ensures.1 l (tree.number c.args.n) (c.num-e.ensures.1 p (itself p m)) s (parts_kept b.pool p b.stack.items b.temps b.declared.items (around b) s c.num-e.ensures.0 m t),
    )
