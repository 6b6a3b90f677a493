use Rattle.std.proofs.Common.{Option, None, sym, ap, ◌∙◌, subst}
use Rattle.js_tree.specs.Script.{Expr}
use Rattle.js_body.specs.State.{Around, set_last}
use Rattle.js_body.specs.Tells.{around, MayStand, stands_none}
use Rattle.js_body.specs.StepLaws.{if_true, if_false}
use Rattle.js_body.proofs.body.Body.just_set.Goals as goal

pub returns-then-self : goal.returns-then-self
returns-then-self c s t = subst (λ (z : Option Expr). MayStand c.args.self.now.pool c.set_last.result z) (if_true s.around.plain (set_last s) None (sym (ap (λ (near : Around). near.plain) t.around_is) ∙ c.if-self.true)) (c.set_last.ensures s t)

pub returns-else-self : goal.returns-else-self
returns-else-self c s t = subst (λ (z : Option Expr). MayStand c.args.self.now.pool None z) (if_false s.around.plain (set_last s) None (sym (ap (λ (near : Around). near.plain) t.around_is) ∙ c.if-self.false)) stands_none
