use Rattle.js_body.proofs.Places.{parts_dropped_to}
use Rattle.js_body.proofs.body.Body.drop_to.Goals as goal

pub returns : goal.returns
returns c = (λ end g. g, λ l s t. parts_dropped_to _ _ _ _ _ _ s c.args.place _ c.truncate.ensures.items t)
