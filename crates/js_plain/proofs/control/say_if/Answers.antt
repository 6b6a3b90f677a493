use Rattle.std.proofs.Common.{List, refl, sym, ap, ◌∙◌}
use Rattle.js_pool.specs.Says as say
use Rattle.js_pool.specs.declared.node.Else.TheVariants as tail
use Rattle.js_pool.specs.declared.node.Stmt.TheVariants as line
use Rattle.js_body.specs.State.{Line, with_line, lines_since, cut_to}
use Rattle.js_body.specs.Tells.{around, said}
use Rattle.js_body.specs.Later.{stands_later}
use Rattle.js_body.specs.BlockLaws.{block_later, block_says, parts_since}
use Rattle.js_body.specs.StepLaws.{earlier, from_here, parts_line, parts_same}
use Rattle.js_plain.specs.Control.{if_line, when_line, else_line}
use Rattle.js_plain.proofs.Blocks.{none_held, some_held}
use Rattle.js_plain.proofs.control.say_if.Goals as goal

pub returns-then-is_empty : goal.returns-then-is_empty
returns-then-is_empty c =
    let b = c.args.b.now in
    let p = c.close-other.new.self in
    let q = c.when.new.self in (
      λ end g. c.close-other.ensures.0 end (c.when.ensures.0 end g),
      λ l t h ls k s r n.
          let m = earlier p q c.when.ensures.0 l in
          let d = parts_since b.pool p b.stack.items b.temps b.declared.items (around b) s c.args.mark.0 c.close-other.result n c.close-other.ensures m r in
          let e = none_held p c.close-other.result (lines_since c.args.mark.0 s) d.0 (sym c.is_empty.ensures ∙ c.if-is_empty.true) in
          let g = from_here b.pool q (λ end z. c.close-other.ensures.0 end (c.when.ensures.0 end z)) l in
          parts_same _ _ _ _ _ _ _ _ (ap (λ (os : List Line). with_line (if_line t ls os) (cut_to c.args.mark.0 s)) (sym e))
          (parts_line p q b.stack.items b.temps b.declared.items (around b) (cut_to c.args.mark.0 s) (line.If c.args.test c.args.arm tail.Nothing) (when_line t ls) c.when.ensures l (said refl (say.branch (stands_later g h) (block_says (block_later g k)) say.nothing)) d.1),
    )

pub returns-else-is_empty : goal.returns-else-is_empty
returns-else-is_empty c =
    let b = c.args.b.now in
    let p = c.close-other.new.self in
    let q = c.when_else.new.self in (
      λ end g. c.close-other.ensures.0 end (c.when_else.ensures.0 end g),
      λ l t h ls k s r n.
          let m = earlier p q c.when_else.ensures.0 l in
          let d = parts_since b.pool p b.stack.items b.temps b.declared.items (around b) s c.args.mark.0 c.close-other.result n c.close-other.ensures m r in
          let e = some_held p c.close-other.result (lines_since c.args.mark.0 s) d.0 (sym c.is_empty.ensures ∙ c.if-is_empty.false) t ls in
          let g = from_here b.pool q (λ end z. c.close-other.ensures.0 end (c.when_else.ensures.0 end z)) l in
          let g2 = from_here p q c.when_else.ensures.0 l in
          parts_same _ _ _ _ _ _ _ _ (ap (λ (k : Line). with_line k (cut_to c.args.mark.0 s)) (sym e))
          (parts_line p q b.stack.items b.temps b.declared.items (around b) (cut_to c.args.mark.0 s) (line.If c.args.test c.args.arm (tail.Block c.close-other.result)) (else_line t ls (lines_since c.args.mark.0 s)) c.when_else.ensures l
          (said refl (say.branch (stands_later g h) (block_says (block_later g k)) (say.other (block_says (block_later g2 d.0))))) d.1),
    )
