use Rattle.js_pool.specs.Tree as tree
use Rattle.js_body.specs.Tells.{around}
use Rattle.js_body.specs.Later.{itself}
use Rattle.js_body.specs.StepLaws.{earlier, parts_kept}
use Rattle.js_body.proofs.body.Body.push_truth.Goals as goal

pub returns : goal.returns
returns c =
    let b = c.args.self.now in
    let p = c.truth-e.new.self in (
      λ end g. c.truth-e.ensures.0.0 end (c.push_known.ensures.0 end g),
      λ l s t.
          let m = earlier p c.push_known.new.self.pool c.push_known.ensures.0 l in
          c.push_known.ensures.1 l (tree.boolean c.args.b) (c.truth-e.ensures.1 p (itself p m)) s (parts_kept b.pool p b.stack.items b.temps b.declared.items (around b) s c.truth-e.ensures.0 m t),
    )
