use Rattle.std.proofs.Common.{ℕ, Option, sym, ap}
use Rattle.js_body.specs.StepLaws.{parts_same}
use Rattle.js_plain.specs.Control.{arm_left}
use Rattle.js_plain.proofs.control.leave_chain.Goals as goal

pub returns-in-Some : goal.returns-in-Some
returns-in-Some c = (c.leave_at.ensures.0, λ l s t. parts_same _ _ _ _ _ _ _ _ (ap (λ (e : Option ℕ). arm_left e s) (sym c.in-Some.is)) (c.leave_at.ensures.1 l s t))

pub returns-in-None : goal.returns-in-None
returns-in-None c = (λ end g. g, λ l s t. parts_same _ _ _ _ _ _ _ _ (ap (λ (e : Option ℕ). arm_left e s) (sym c.in-None.is)) t)
