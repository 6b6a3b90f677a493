use Rattle.std.proofs.Common.{Option, sym, ap, ◌∙◌}
use Rattle.js_body.specs.declared.body.Home.{Home}
use Rattle.js_body.specs.StepLaws.{parts_same}
use Rattle.js_plain.specs.Control.{result_returned, block_held}
use Rattle.js_plain.proofs.control.return_result.Goals as goal

pub returns-in-Some : goal.returns-in-Some
returns-in-Some c = (
  c.return_var.ensures.0,
  λ l s t h. parts_same _ _ _ _ _ _ _ _ (ap (λ (o : Option Home). result_returned o s) (sym c.in-Some.is)) (c.return_var.ensures.1 l s t (ap (λ (o : Option Home). block_held o s.around.facts) (sym c.in-Some.is) ∙ h)),
)

pub returns-in-None : goal.returns-in-None
returns-in-None c = (λ end g. g, λ l s t h. parts_same _ _ _ _ _ _ _ _ (ap (λ (o : Option Home). result_returned o s) (sym c.in-None.is)) t)
