use Rattle.js_body.specs.Tells.{around}
use Rattle.js_body.specs.Later.{itself}
use Rattle.js_body.specs.StepLaws.{parts_kept}
use Rattle.js_body.proofs.body.Body.frame.Goals as goal

pub returns : goal.returns
returns c =
    let b = c.args.self.now in
    let q = c.name.new.self in
    (c.name.ensures.0.0, λ l s t. (c.name.ensures.1 q (itself q l), parts_kept b.pool q b.stack.items b.temps b.declared.items (around b) s c.name.ensures.0 l t))
