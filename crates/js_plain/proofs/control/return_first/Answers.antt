use Rattle.std.proofs.Common.{Option, ap, ◌∙◌}
use Rattle.js_body.specs.declared.body.Home.{Home}
use Rattle.js_body.specs.StepLaws.{parts_same}
use Rattle.js_plain.specs.Control.{result_returned, block_held}
use Rattle.js_plain.proofs.control.return_first.Goals as goal

pub returns : goal.returns
returns c = (
  c.return_result.ensures.0,
  λ l s t h.
      let e = c.result_at-h.ensures s t in
      parts_same _ _ _ _ _ _ _ _ (ap (λ (o : Option Home). result_returned o s) e) (c.return_result.ensures.1 l s t (ap (λ (o : Option Home). block_held o s.around.facts) e ∙ h 0)),
)
