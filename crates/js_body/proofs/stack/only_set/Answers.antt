use Rattle.std.proofs.Common.{◌≡◌, suc, List, length, reverse, None, sym, ap, ◌∙◌, subst}
use Rattle.std.proofs.lemmas.List.{length-reverse}
use Rattle.js_pool.specs.declared.node.Stmt.{Stmt}
use Rattle.js_body.specs.State.{Line, only_set}
use Rattle.js_body.specs.Tells.{MayStand, stands_none}
use Rattle.js_body.specs.BlockLaws.{lines_length}
use Rattle.js_body.proofs.Steps.{last_line, no_last_line}
use Rattle.js_body.proofs.stack.only_set.Goals as goal

pub returns-in-Some : goal.returns-in-Some
returns-in-Some c p ls h =
    let r = last_line p c.args.lines.now c.in-Some.line.now ls (sym c.in-Some.ensures.value) h in
    let n = sym (length-reverse c.args.lines.now) ∙ lines_length h ∙ ap length r.2 in
    subst (λ (k : List Line). MayStand p c.only_line.result (only_set c.args.place k)) (sym r.2) (c.only_line.ensures p r.0 r.1 r.3 n)

pub returns-in-None : goal.returns-in-None
returns-in-None c p ls h = subst (λ (k : List Line). MayStand p None (only_set c.args.place k)) (sym (no_last_line p c.args.lines.now ls (sym c.in-None.ensures.value) h)) stands_none
