use Rattle.js_body.specs.State.{pushed}
use Rattle.js_body.specs.StepLaws.{earlier}
use Rattle.js_body.proofs.body.Body.scratch.Goals as goal

pub returns : goal.returns
returns c = (
  λ end g. c.push.ensures.0 end (c.pop.ensures.0 end g),
  λ l t h s r.
      let m = earlier c.push.new.self.pool c.pop.new.self.pool c.pop.ensures.0 l in
      let v = c.pop.ensures.1 l (pushed t s) (c.push.ensures.1 m t h s r) in
      (v.0.stands, v.1),
)
