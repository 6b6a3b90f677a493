use Rattle.std.proofs.Common.{◌≡◌, true, false, sym, ap, ◌∙◌}
use Rattle.js_body.specs.State.{last_value, popped, is_temporary}
use Rattle.js_body.specs.StepLaws.{earlier, if_true, if_false, parts_same}
use Rattle.js_body.proofs.body.Body.settle.Goals as goal

pub returns-then-is_temporary : goal.returns-then-is_temporary
returns-then-is_temporary c = (
  λ end g. c.pop-o.ensures.0 end (c.put.ensures.0 end g),
  λ l s t.
      let m = earlier c.pop-o.new.self.pool c.put.new.self.pool c.put.ensures.0 l in
      let v = c.pop-o.ensures.1 m s t in
      let k : is_temporary (last_value s).known ≡ true = ap is_temporary (sym v.0.known) ∙ sym c.is_temporary.ensures ∙ c.if-is_temporary.true in
      parts_same _ _ _ _ _ _ _ _ (if_true (is_temporary (last_value s).known) _ _ k) (c.put.ensures.1 l (last_value s) v.0 (popped s) v.1),
)

pub returns-else-is_temporary : goal.returns-else-is_temporary
returns-else-is_temporary c = (
  λ end g. c.pop-o.ensures.0 end (c.push.ensures.0 end g),
  λ l s t.
      let m = earlier c.pop-o.new.self.pool c.push.new.self.pool c.push.ensures.0 l in
      let v = c.pop-o.ensures.1 m s t in
      let k : is_temporary (last_value s).known ≡ false = ap is_temporary (sym v.0.known) ∙ sym c.is_temporary.ensures ∙ c.if-is_temporary.false in
      parts_same _ _ _ _ _ _ _ _ (if_false (is_temporary (last_value s).known) _ _ k) (c.push.ensures.1 l (last_value s).tree v.0.stands (popped s) v.1),
)
