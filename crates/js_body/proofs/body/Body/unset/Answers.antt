use Rattle.std.proofs.Common.{sym, ◌∙◌}
use Rattle.js_body.specs.State.{dropped_line, declares_first}
use Rattle.js_body.specs.Tells.{around}
use Rattle.js_body.specs.StepLaws.{earlier, if_true, if_false, parts_same}
use Rattle.js_body.proofs.Steps.{parts_dropped}
use Rattle.js_body.proofs.body.Body.unset.Goals as goal

pub returns-then-drop_line : goal.returns-then-drop_line
returns-then-drop_line c = (
  λ end g. c.drop_line.ensures.0.0 end (c.set_declared.ensures.0 end g),
  λ l s t.
      let b = c.args.self.now in
      let m = earlier c.drop_line.new.p c.set_declared.new.self.pool c.set_declared.ensures.0 l in
      let d = parts_dropped b.pool c.drop_line.new.p b.stack.items b.temps b.declared.items (around b) s c.drop_line.result c.drop_line.ensures m t in
      parts_same _ _ _ _ _ _ _ _ (if_true (declares_first s.lines) _ _ (sym d.1 ∙ c.if-drop_line.true)) (c.set_declared.ensures.1 l (dropped_line s) d.0),
)

pub returns-else-drop_line : goal.returns-else-drop_line
returns-else-drop_line c = (
  c.drop_line.ensures.0.0,
  λ l s t.
      let b = c.args.self.now in
      let d = parts_dropped b.pool c.drop_line.new.p b.stack.items b.temps b.declared.items (around b) s c.drop_line.result c.drop_line.ensures l t in
      parts_same _ _ _ _ _ _ _ _ (if_false (declares_first s.lines) _ _ (sym d.1 ∙ c.if-drop_line.false)) d.0,
)
