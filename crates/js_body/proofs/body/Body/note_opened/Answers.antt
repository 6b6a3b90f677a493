use Rattle.js_body.specs.StepLaws.{fails}
use Rattle.js_body.proofs.body.Body.note_opened.Goals as goal

pub returns-in-Err : goal.returns-in-Err
returns-in-Err c = fails _ c.fail.new.p c.fail.ensures
