use Rattle.std.proofs.Common.{ℕ, ap}
use Rattle.js_body.specs.State.{Around, more_adapters}
use Rattle.js_body.specs.Tells.{around}
use Rattle.js_body.proofs.Steps.{parts_near}
use Rattle.js_body.proofs.body.Body.need_adapter.Goals as goal

pub returns : goal.returns
returns c = (λ end g. g, λ l s t. parts_near _ _ _ _ _ _ _ s (λ (near : Around). record near { adapters = more_adapters c.args.arguments near.adapters }) (ap (λ (n : ℕ). record (around c.args.self.now) { adapters = n }) c.more_of-self.ensures) t)
