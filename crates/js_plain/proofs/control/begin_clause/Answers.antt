use Rattle.std.proofs.Common.{◌≡◌, length, ◌∙◌}
use Rattle.js_pool.specs.Stands.{opened}
use Rattle.js_body.specs.Tells.{around}
use Rattle.js_body.specs.BlockLaws.{parts_lines}
use Rattle.js_plain.specs.Control.{clause_begun}
use Rattle.js_plain.specs.Lines.{mark_is}
use Rattle.js_plain.proofs.control.begin_clause.Goals as goal

pub returns : goal.returns
returns c =
    let q = c.enter_label.new.self in (
      c.enter_label.ensures.0,
      λ l s t.
          let k = c.enter_label.ensures.1 l s t in
          let m : c.open.result.0 ≡ length s.lines = c.open.ensures ∙ parts_lines q.pool (opened q.pool) q.stack.items q.temps q.declared.items (around q) (clause_begun c.args.c c.args.label s) k in
          (mark_is c.open.result (length s.lines) m, k),
    )
