use Rattle.js_body.specs.StepLaws.{fails, no_more}
use Rattle.js_plain.proofs.fresh.keep.Goals as goal

pub returns-in-Ok : goal.returns-in-Ok
returns-in-Ok c = (λ end g. g, λ l s t. (c.in-Ok.ensures.items, t))

pub returns-in-Err : goal.returns-in-Err
returns-in-Err c = (fails _ c.fail.new.p c.fail.ensures, λ l s t. absurd (no_more c.fail.new.p c.fail.ensures l))
