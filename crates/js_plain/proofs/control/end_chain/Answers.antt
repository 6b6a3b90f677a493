use Rattle.js_body.specs.StepLaws.{if_true, if_false, parts_same}
use Rattle.js_plain.specs.Control.{closed_at}
use Rattle.js_plain.proofs.control.end_chain.Goals as goal

pub returns-then-c : goal.returns-then-c
returns-then-c c = (c.close_at.ensures.0, λ l s t n. parts_same _ _ _ _ _ _ _ _ (if_true c.args.c.begins (closed_at c.args.c.mark.0 c.args.n s) s c.if-c.true) (c.close_at.ensures.1 l s t n))

pub returns-else-c : goal.returns-else-c
returns-else-c c = (λ end g. g, λ l s t n. parts_same _ _ _ _ _ _ _ _ (if_false c.args.c.begins (closed_at c.args.c.mark.0 c.args.n s) s c.if-c.false) t)
