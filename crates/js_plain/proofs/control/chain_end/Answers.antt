use Rattle.std.proofs.Common.{Some, ap, ◌∙◌}
use Rattle.js_body.specs.State.{next_case, with_cases}
use Rattle.js_body.specs.StepLaws.{if_true, if_false, parts_same}
use Rattle.js_plain.proofs.control.chain_end.Goals as goal

pub returns-then-begins : goal.returns-then-begins
returns-then-begins c = (
  c.fresh-n.ensures.0,
  λ l s t.
      let k = c.fresh-n.ensures.1 l s t in
      (ap Some k.0 ∙ if_true c.args.begins (Some (next_case s)) c.args.around c.if-begins.true, parts_same _ _ _ _ _ _ _ _ (if_true c.args.begins (with_cases 1 s) s c.if-begins.true) k.1),
)

pub returns-else-begins : goal.returns-else-begins
returns-else-begins c = (
  λ end g. g,
  λ l s t. (if_false c.args.begins (Some (next_case s)) c.args.around c.if-begins.false, parts_same _ _ _ _ _ _ _ _ (if_false c.args.begins (with_cases 1 s) s c.if-begins.false) t),
)
