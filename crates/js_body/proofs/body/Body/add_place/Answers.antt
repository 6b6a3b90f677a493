use Rattle.js_body.specs.StepLaws.{fails, no_more}
use Rattle.js_body.proofs.body.Body.add_place.Goals as goal

pub returns-then-not-has_place : goal.returns-then-not-has_place
returns-then-not-has_place c = (
  λ end g. c.has_place.ensures.0 end (fails c.has_place.new.self.pool c.fail.new.p c.fail.ensures end g),
  λ l s t. absurd (no_more c.fail.new.p c.fail.ensures l),
)
