use Rattle.js_body.specs.StepLaws.{fails, no_more}
use Rattle.js_body.proofs.body.Body.note.Goals as goal

pub returns-in-Err : goal.returns-in-Err
returns-in-Err c = (fails _ c.fail.new.p c.fail.ensures, λ l s t. absurd (no_more c.fail.new.p c.fail.ensures l))
