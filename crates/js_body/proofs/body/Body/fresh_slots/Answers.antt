use Rattle.std.proofs.Common.{◌+◌, min, refl, ap}
use Rattle.js_body.specs.State.{Around}
use Rattle.js_body.specs.Tells.{around}
use Rattle.js_body.proofs.Steps.{parts_near}
use Rattle.js_body.proofs.body.Body.fresh_slots.Goals as goal

pub returns : goal.returns
returns c = (λ end g. g, λ l s t. (ap (λ (near : Around). near.next_slot) t.around_is, parts_near _ _ _ _ _ _ _ s (λ near. record near { next_slot = min (near.next_slot + c.args.count) 4294967295 }) (ap (λ n. record (around c.args.self.now) { next_slot = n }) c.saturating_add-self.ensures) t))
