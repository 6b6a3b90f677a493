use Rattle.std.proofs.Common.{◌≡◌, Bool, sym, ap, ◌∙◌}
use Rattle.js_body.specs.State.{left, is_continued}
use Rattle.js_body.specs.StepLaws.{earlier, if_true, if_false, parts_same}
use Rattle.js_plain.specs.Control.{block_turn, is_block_turn, closed_at}
use Rattle.js_plain.proofs.control.end_turn.Goals as goal

pub returns-then-block : goal.returns-then-block
returns-then-block c =
    let m = c.leave_label.new.self in
    let q = c.close_at.new.b in (
      λ end g. c.leave_label.ensures.0 end (c.close_at.ensures.0 end g),
      λ l s t n.
          let k = sym (c.is_block_turn-block.ensures ∙ ap (block_turn c.args.l) (c.is_continued.ensures s t)) ∙ c.if-block.true in
          parts_same _ _ _ _ _ _ _ _ (if_true (is_block_turn c.args.l s) (closed_at c.args.mark.0 c.args.l.next (left s)) (left s) k) (c.close_at.ensures.1 l (left s) (c.leave_label.ensures.1 (earlier m.pool q.pool c.close_at.ensures.0 l) s t) n),
    )

pub returns-else-block : goal.returns-else-block
returns-else-block c =
    let m = c.leave_label.new.self in
    let q = c.join_turn.new.b in (
      λ end g. c.leave_label.ensures.0 end (c.join_turn.ensures.0 end g),
      λ l s t n.
          let k = sym (c.is_block_turn-block.ensures ∙ ap (block_turn c.args.l) (c.is_continued.ensures s t)) ∙ c.if-block.false in
          parts_same _ _ _ _ _ _ _ _ (if_false (is_block_turn c.args.l s) (closed_at c.args.mark.0 c.args.l.next (left s)) (left s) k) (c.join_turn.ensures.1 l (left s) (c.leave_label.ensures.1 (earlier m.pool q.pool c.join_turn.ensures.0 l) s t) n),
    )
