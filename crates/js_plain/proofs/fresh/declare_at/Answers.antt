use Rattle.std.proofs.Common.{Option, sym, ap, ◌∙◌}
use Rattle.go_core.specs.declared.node.VarId.{VarId}
use Rattle.js_body.specs.StepLaws.{parts_same}
use Rattle.js_plain.specs.Fresh.{declared_by, block_var}
use Rattle.js_plain.proofs.fresh.declare_at.Goals as goal

pub returns-in-Some : goal.returns-in-Some
returns-in-Some c = (
  c.declare.ensures.0,
  λ l s t h. parts_same _ _ _ _ _ _ _ _ (ap (λ (o : Option VarId). declared_by o s) (sym c.in-Some.is)) (c.declare.ensures.1 l s t (ap (λ (o : Option VarId). block_var o s.around.facts) (sym c.in-Some.is) ∙ h)),
)

pub returns-in-None : goal.returns-in-None
returns-in-None c = (λ end g. g, λ l s t h. parts_same _ _ _ _ _ _ _ _ (ap (λ (o : Option VarId). declared_by o s) (sym c.in-None.is)) t)
