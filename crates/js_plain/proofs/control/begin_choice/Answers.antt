use Rattle.std.proofs.Common.{◌≡◌, ℕ, ◌+◌, min, length, ap, ap₂, ◌∙◌}
use Rattle.js_pool.specs.Stands.{opened}
use Rattle.js_pool.specs.declared.pool.Mark.{Mark}
use Rattle.js_body.specs.State.{with_cases}
use Rattle.js_body.specs.Tells.{around}
use Rattle.js_body.specs.BlockLaws.{parts_lines}
use Rattle.js_plain.specs.Control.{counted, clauses_at}
use Rattle.js_plain.specs.Lines.{mark_is}
use Rattle.js_plain.proofs.control.begin_choice.Goals as goal

pub returns : goal.returns
returns c =
    let q = c.fresh-chosen.new.self in (
      c.fresh-chosen.ensures.0,
      λ l s t.
          let f = c.fresh-chosen.ensures.1 l s t in
          let k : c.open-mark.result.0 ≡ length s.lines = c.open-mark.ensures ∙ parts_lines q.pool (opened q.pool) q.stack.items q.temps q.declared.items (around q) (with_cases 2 s) f.1 in (
            ap (λ (e : ℕ). clauses_at c.fresh-chosen.result e c.counted-many.result c.open-mark.result) c.saturating_add-end.ensures
                ∙ ap (λ (m : ℕ). clauses_at c.fresh-chosen.result (min (c.fresh-chosen.result + 1) 4294967295) m c.open-mark.result) c.counted-many.ensures
                ∙ ap₂ (λ (n : ℕ) (m : Mark). clauses_at n (min (n + 1) 4294967295) (counted c.args.many) m) f.0 (mark_is c.open-mark.result (length s.lines) k),
            f.1,
          ),
    )
