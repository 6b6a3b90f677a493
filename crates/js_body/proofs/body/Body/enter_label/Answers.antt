use Rattle.std.proofs.Common.{[], ◌∷◌, ◌++◌, false, ap}
use Rattle.js_body.specs.State.{Around}
use Rattle.js_body.specs.Tells.{around}
use Rattle.js_body.specs.StepLaws.{fails, no_more}
use Rattle.js_body.proofs.Steps.{parts_near}
use Rattle.js_body.proofs.body.Body.enter_label.Goals as goal

pub returns-in-Ok : goal.returns-in-Ok
returns-in-Ok c =
    let b = c.args.self.now in (
      λ end g. g,
      λ l s t. parts_near _ _ _ _ _ _ _ s
          (λ near. record near { exits = near.exits ++ record { label = c.args.label; after = c.args.after; next = c.args.next; continued = false } ∷ [] })
          (ap (λ es. record (around b) { exits = es }) c.in-Ok.ensures.items) t,
    )

pub returns-in-Err : goal.returns-in-Err
returns-in-Err c = (fails _ c.fail.new.p c.fail.ensures, λ l s t. absurd (no_more c.fail.new.p c.fail.ensures l))
