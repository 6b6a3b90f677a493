use Rattle.std.proofs.Common.{◌-◌, ap, ◌∙◌, sym}
use Rattle.js_body.specs.State.{Around}
use Rattle.js_body.specs.Tells.{around}
use Rattle.js_body.specs.StepLaws.{earlier}
use Rattle.js_body.proofs.Steps.{parts_near}
use Rattle.js_body.proofs.body.Body.leave_loop.Goals as goal

pub returns : goal.returns
returns c =
    let m = c.forget_sets.new.self in
    let q = c.open_slices.new.self in (
      λ end g. c.forget_sets.ensures.0 end (c.open_slices.ensures.0 end g),
      λ l s t e.
          let k = c.open_slices.ensures.1 l s (c.forget_sets.ensures.1 (earlier m.pool q.pool c.open_slices.ensures.0 l) s t) e in
          parts_near _ _ _ _ _ _ _ s (λ (near : Around). record near { loops = near.loops - 1 }) (ap (λ n. record (around q) { loops = n }) c.saturating_sub-self.ensures) k,
    )
