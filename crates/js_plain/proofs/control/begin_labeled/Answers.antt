use Rattle.std.proofs.Common.{◌≡◌, ℕ, length, ap, ap₂, ◌∙◌}
use Rattle.js_pool.specs.Stands.{opened}
use Rattle.js_body.specs.State.{with_cases, entered}
use Rattle.js_body.specs.Tells.{around}
use Rattle.js_body.specs.BlockLaws.{parts_lines}
use Rattle.js_body.specs.StepLaws.{earlier, parts_same}
use Rattle.js_plain.specs.Control.{labeled_with}
use Rattle.js_plain.specs.Lines.{mark_is}
use Rattle.js_plain.proofs.control.begin_labeled.Goals as goal

pub returns : goal.returns
returns c =
    let m = c.fresh-end.new.self in
    let q = c.enter_label.new.self in
    let n = c.fresh-end.result in (
      λ end g. c.fresh-end.ensures.0 end (c.enter_label.ensures.0 end g),
      λ l s t.
          let f = c.fresh-end.ensures.1 (earlier m.pool q.pool c.enter_label.ensures.0 l) s t in
          let u = c.enter_label.ensures.1 l (with_cases 1 s) f.1 in
          let k : c.open-mark.result.0 ≡ length s.lines = c.open-mark.ensures ∙ parts_lines q.pool (opened q.pool) q.stack.items q.temps q.declared.items (around q) (entered c.args.label n n (with_cases 1 s)) u in (
            ap₂ labeled_with f.0 (mark_is c.open-mark.result (length s.lines) k),
            parts_same _ _ _ _ _ _ _ _ (ap (λ (e : ℕ). entered c.args.label e e (with_cases 1 s)) f.0) u,
          ),
    )
