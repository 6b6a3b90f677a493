use Rattle.js_body.specs.State.{left}
use Rattle.js_body.specs.StepLaws.{earlier, if_true, if_false, parts_same}
use Rattle.js_plain.specs.Control.{left_at}
use Rattle.js_plain.proofs.control.leave_clause.Goals as goal

pub returns-then-not-falls_through : goal.returns-then-not-falls_through
returns-then-not-falls_through c =
    let m = c.leave_label.new.self in
    let q = c.leave_at.new.b in (
      λ end g. c.leave_label.ensures.0 end (c.leave_at.ensures.0 end g),
      λ l s t. parts_same _ _ _ _ _ _ _ _ (if_false c.args.falls_through (left s) (left_at c.args.c.end (left s)) c.if-not-falls_through.true) (c.leave_at.ensures.1 l (left s) (c.leave_label.ensures.1 (earlier m.pool q.pool c.leave_at.ensures.0 l) s t)),
    )

pub returns-else-not-falls_through : goal.returns-else-not-falls_through
returns-else-not-falls_through c = (c.leave_label.ensures.0, λ l s t. parts_same _ _ _ _ _ _ _ _ (if_true c.args.falls_through (left s) (left_at c.args.c.end (left s)) c.if-not-falls_through.false) (c.leave_label.ensures.1 l s t))
