use Rattle.std.proofs.Common.{◌≡◌, true, false, sym, ap, ◌∙◌}
use Rattle.js_body.specs.State.{last_value, is_variable}
use Rattle.js_body.specs.StepLaws.{if_true, if_false, parts_same}
use Rattle.js_body.proofs.body.Body.settle_constant.Goals as goal

pub returns-then-not-is_variable : goal.returns-then-not-is_variable
returns-then-not-is_variable c = (
  c.settle.ensures.0,
  λ l s t.
      let k : is_variable (last_value s).known ≡ false = ap is_variable (sym (c.last.ensures s t).known) ∙ sym c.is_variable.ensures ∙ c.if-not-is_variable.true in
      parts_same _ _ _ _ _ _ _ _ (if_false (is_variable (last_value s).known) _ _ k) (c.settle.ensures.1 l s t),
)

pub returns-else-not-is_variable : goal.returns-else-not-is_variable
returns-else-not-is_variable c = (
  λ end g. g,
  λ l s t.
      let k : is_variable (last_value s).known ≡ true = ap is_variable (sym (c.last.ensures s t).known) ∙ sym c.is_variable.ensures ∙ c.if-not-is_variable.false in
      parts_same _ _ _ _ _ _ _ _ (if_true (is_variable (last_value s).known) _ _ k) t,
)
