use Rattle.js_body.specs.StepLaws.{fails, no_more, parts_value}
use Rattle.js_body.proofs.body.Body.put.Goals as goal

pub returns-in-Ok : goal.returns-in-Ok
returns-in-Ok c = (λ end g. g, λ l v h s t. parts_value _ _ _ _ _ _ _ s _ v c.in-Ok.ensures.items h t)

pub returns-in-Err : goal.returns-in-Err
returns-in-Err c = (fails _ c.fail.new.p c.fail.ensures, λ l v h s t. absurd (no_more c.fail.new.p c.fail.ensures l))
