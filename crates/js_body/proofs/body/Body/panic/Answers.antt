use Rattle.js_body.specs.State.{panic_tree}
use Rattle.js_body.specs.Later.{itself}
use Rattle.js_body.specs.Tells.{around}
use Rattle.js_body.specs.StepLaws.{earlier, parts_kept}
use Rattle.js_body.proofs.body.Body.panic.Goals as goal

pub returns : goal.returns
returns c =
    let b = c.args.self.now in
    let p = c.name_of-value.new.self in
    let q = c.panic_with.new.self in (
      λ end g. c.name_of-value.ensures.0.0 end (c.panic_with.ensures.0 end g),
      λ l s r.
          let m = earlier p q.pool c.panic_with.ensures.0 l in
          let a = parts_kept b.pool p b.stack.items b.temps b.declared.items (around b) s c.name_of-value.ensures.0 m r in
          c.panic_with.ensures.1 l (panic_tree c.args.number) (c.name_of-value.ensures.1 p (itself p m)) s a,
    )
