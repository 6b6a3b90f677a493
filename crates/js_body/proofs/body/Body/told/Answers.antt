use Rattle.js_body.specs.Tells.{around}
use Rattle.js_body.specs.Later.{itself, stands_later}
use Rattle.js_body.specs.StepLaws.{from_here, parts_kept}
use Rattle.js_body.proofs.body.Body.told.Goals as goal

pub returns : goal.returns
returns c =
    let b = c.args.self.now in
    let q = c.told.new.p in (
      c.told.ensures.0.0,
      λ l t h s r. (c.told.ensures.1 q (itself q l) t (stands_later (from_here b.pool q c.told.ensures.0.0 l) h), parts_kept b.pool q b.stack.items b.temps b.declared.items (around b) s c.told.ensures.0 l r),
    )
