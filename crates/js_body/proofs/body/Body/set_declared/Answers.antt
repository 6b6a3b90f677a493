use Rattle.js_body.specs.StepLaws.{fails, no_more}
use Rattle.js_body.proofs.body.Body.set_declared.Goals as goal

pub returns-then-not-note : goal.returns-then-not-note
returns-then-not-note c = (fails _ c.fail.new.p c.fail.ensures, λ l s t. absurd (no_more c.fail.new.p c.fail.ensures l))
