use Rattle.std.proofs.Common.{sym, ap}
use Rattle.js_body.specs.declared.body.Known.{Known}
use Rattle.js_body.specs.State.{pushed_operand}
use Rattle.js_body.specs.StepLaws.{parts_same}
use Rattle.js_body.proofs.Steps.{other_known}
use Rattle.js_body.proofs.body.Body.push_operand.Goals as goal

pub returns-in-Nothing : goal.returns-in-Nothing
returns-in-Nothing c = (c.push.ensures.0, λ l t h s r. parts_same _ _ _ _ _ _ _ _ (ap (λ (k : Known). pushed_operand k t s) (sym c.in-Nothing.is)) (c.push.ensures.1 l t h s r))

pub returns-in_default : goal.returns-in_default
returns-in_default c = (c.push_known.ensures.0, λ l t h s r. parts_same _ _ _ _ _ _ _ _ (other_known c.args.o.known t s c.in_default.not-Nothing) (c.push_known.ensures.1 l t h s r))
