use Rattle.std.proofs.Common.{◌≡◌, true, false, sym, ap, ◌∙◌}
use Rattle.js_body.specs.State.{value_at, is_variable}
use Rattle.js_body.specs.StepLaws.{if_true, if_false, parts_same}
use Rattle.js_body.proofs.body.Body.settle_at.Goals as goal

pub returns-then-is_variable : goal.returns-then-is_variable
returns-then-is_variable c = (
  c.set_value.ensures.0,
  λ l s t.
      let v = c.value_at-o.ensures s t in
      let k : is_variable (value_at c.args.place s).known ≡ true = ap is_variable (sym v.known) ∙ (sym c.is_variable.ensures ∙ c.if-is_variable.true) in
      parts_same _ _ _ _ _ _ _ _ (if_true (is_variable (value_at c.args.place s).known) _ _ k) (c.set_value.ensures.1 l (value_at c.args.place s).tree v.stands s t),
)

pub returns-else-is_variable : goal.returns-else-is_variable
returns-else-is_variable c = (
  λ end g. g,
  λ l s t.
      let v = c.value_at-o.ensures s t in
      let k : is_variable (value_at c.args.place s).known ≡ false = ap is_variable (sym v.known) ∙ (sym c.is_variable.ensures ∙ c.if-is_variable.false) in
      parts_same _ _ _ _ _ _ _ _ (if_false (is_variable (value_at c.args.place s).known) _ _ k) t,
)
