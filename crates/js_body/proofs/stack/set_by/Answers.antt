use Rattle.std.proofs.Common.{List, None, sym, subst}
use Rattle.js_body.specs.State.{Line, set_by}
use Rattle.js_body.specs.Tells.{MayStand, stands_none}
use Rattle.js_body.proofs.Steps.{last_line, no_last_line}
use Rattle.js_body.proofs.stack.set_by.Goals as goal

pub returns-in-Some : goal.returns-in-Some
returns-in-Some c p ls h =
    let r = last_line p c.args.lines.now c.in-Some.line.now ls (sym c.in-Some.ensures.value) h in
    subst (λ (k : List Line). MayStand p c.set_to.result (set_by c.args.place k)) (sym r.2) (c.set_to.ensures p r.0 r.1 r.3)

pub returns-in-None : goal.returns-in-None
returns-in-None c p ls h = subst (λ (k : List Line). MayStand p None (set_by c.args.place k)) (sym (no_last_line p c.args.lines.now ls (sym c.in-None.ensures.value) h)) stands_none
