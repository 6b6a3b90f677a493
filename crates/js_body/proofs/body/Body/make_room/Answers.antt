use Rattle.js_body.specs.StepLaws.{earlier}
use Rattle.js_body.proofs.body.Body.make_room.Goals as goal

pub places-preserved : goal.places-preserved
places-preserved c = (
  λ end g. c.places.invariant.0 end (c.add_place.ensures.0 end g),
  λ l s t. c.add_place.ensures.1 l s (c.places.invariant.1 (earlier c.places.self.pool c.add_place.new.self.pool c.add_place.ensures.0 l) s t),
)
