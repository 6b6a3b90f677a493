use Rattle.std.proofs.Common.{◌≡◌, ℕ, length, refl, ◌∙◌, subst}
use Rattle.js_pool.specs.Stands.{opened}
use Rattle.js_pool.specs.Says as say
use Rattle.js_pool.specs.declared.node.Else.TheVariants as tail
use Rattle.js_pool.specs.declared.node.Stmt.TheVariants as line
use Rattle.js_pool.specs.Says.{ClosesBlock}
use Rattle.js_body.specs.State.{taken, taken_tree, lines_since, cut_to}
use Rattle.js_body.specs.Tells.{around, said}
use Rattle.js_body.specs.Later.{stands_later}
use Rattle.js_body.specs.BlockLaws.{block_later, block_says, parts_lines, parts_since}
use Rattle.js_body.specs.StepLaws.{earlier, from_here, parts_line}
use Rattle.js_plain.specs.Control.{choice_said, when_line}
use Rattle.js_plain.proofs.Blocks.{choice_longer}
use Rattle.js_plain.proofs.control.choose.Goals as goal

pub returns : goal.returns
returns c =
    let b1 = c.take-x.new.self in
    let b2 = c.say_choice.new.b in
    let p = c.close-block.new.self in
    let q = c.when.new.self in (
      λ end g. c.take-x.ensures.0 end (c.say_choice.ensures.0 end (c.close-block.ensures.0 end (c.when.ensures.0 end g))),
      λ l s t.
          let l3 = earlier p q c.when.ensures.0 l in
          let l2 = earlier b2.pool p c.close-block.ensures.0 l3 in
          let l1 = earlier b1.pool b2.pool c.say_choice.ensures.0 l2 in
          let a = c.take-x.ensures.1 l1 s t in
          let u = c.say_choice.ensures.1 l2 (taken s) a.1 in
          let n = length (taken s).lines in
          let e : c.open-mark.result.0 ≡ n = c.open-mark.ensures ∙ parts_lines b1.pool (opened b1.pool) b1.stack.items b1.temps b1.declared.items (around b1) (taken s) a.1 in
          let w = subst (λ (k : ℕ). ClosesBlock b2.pool p k c.close-block.result) e c.close-block.ensures in
          let z = choice_said c.args.c c.args.n (taken s) in
          let d = parts_since b2.pool p b2.stack.items b2.temps b2.declared.items (around b2) z n c.close-block.result (choice_longer c.args.c c.args.n (taken s)) w l3 u in
          let g = from_here b1.pool q (λ end y. c.say_choice.ensures.0 end (c.close-block.ensures.0 end (c.when.ensures.0 end y))) l in
          let g2 = from_here p q c.when.ensures.0 l in
          parts_line p q b2.stack.items b2.temps b2.declared.items (around b2) (cut_to n z) (line.If c.take-x.result c.close-block.result tail.Nothing) (when_line (taken_tree s) (lines_since n z)) c.when.ensures l
          (said refl (say.branch (stands_later g a.0) (block_says (block_later g2 d.0)) say.nothing)) d.1,
    )
