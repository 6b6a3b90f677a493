use Rattle.std.proofs.lemmas.Int.{to_z-of_z}
use Rattle.js_pool.specs.Tree as tree
use Rattle.js_body.specs.Tells.{around}
use Rattle.js_body.specs.Later.{itself}
use Rattle.js_body.specs.StepLaws.{earlier, parts_kept}
use Rattle.js_body.proofs.body.Body.push_number.Goals as goal

pub returns : goal.returns
returns c =
    let b = c.args.self.now in
    let p = c.whole-e.new.self in
    let f = c.ranges.n in
    let k = c.whole-e.ensures.0 in
    let v = simp to_z-of_z at c.push_known.ensures.1 in
    let w = simp to_z-of_z at c.whole-e.ensures.1 in (
      λ end g. k.0 end (c.push_known.ensures.0 end g),
      λ l s t.
          let m = earlier p c.push_known.new.self.pool c.push_known.ensures.0 l in
          v l (tree.whole_tree c.args.n) (w p (itself p m)) s (parts_kept b.pool p b.stack.items b.temps b.declared.items (around b) s k m t),
    )
