use Rattle.std.proofs.Common.{◌≡◌, ℕ, length, ap, ap₂, ◌∙◌}
use Rattle.js_pool.specs.Stands.{opened}
use Rattle.js_body.specs.State.{looped, with_cases}
use Rattle.js_body.specs.Tells.{around}
use Rattle.js_body.specs.BlockLaws.{parts_lines}
use Rattle.js_body.specs.StepLaws.{earlier}
use Rattle.js_plain.specs.Control.{turns_with}
use Rattle.js_plain.specs.Lines.{mark_is}
use Rattle.js_plain.proofs.Blocks.{turns_next}
use Rattle.js_plain.proofs.control.begin_loop.Goals as goal

pub returns : goal.returns
returns c =
    let m = c.enter_loop.new.self in
    let q = c.fresh-end.new.self in (
      λ end g. c.enter_loop.ensures.0 end (c.fresh-end.ensures.0 end g),
      λ l s t.
          let f = c.fresh-end.ensures.1 l (looped s) (c.enter_loop.ensures.1 (earlier m.pool q.pool c.fresh-end.ensures.0 l) s t) in
          let k : c.open-mark.result.0 ≡ length s.lines = c.open-mark.ensures ∙ parts_lines q.pool (opened q.pool) q.stack.items q.temps q.declared.items (around q) (with_cases 2 (looped s)) f.1 in (
            turns_next c.args.has_post c.fresh-end.result c.turn_next-next.result c.open-mark.result c.turn_next-next.ensures ∙ ap₂ (turns_with c.args.has_post) f.0 (mark_is c.open-mark.result (length s.lines) k),
            f.1,
          ),
    )
