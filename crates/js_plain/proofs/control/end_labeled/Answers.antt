use Rattle.js_body.specs.State.{left}
use Rattle.js_body.specs.StepLaws.{earlier}
use Rattle.js_plain.proofs.control.end_labeled.Goals as goal

pub returns : goal.returns
returns c =
    let m = c.leave_label.new.self in
    let q = c.close_at.new.b in (
      λ end g. c.leave_label.ensures.0 end (c.close_at.ensures.0 end g),
      λ l s t n. c.close_at.ensures.1 l (left s) (c.leave_label.ensures.1 (earlier m.pool q.pool c.close_at.ensures.0 l) s t) n,
    )
