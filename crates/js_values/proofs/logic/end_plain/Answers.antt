use Rattle.std.proofs.Common.{◌≡◌, true, false, refl, sym, ◌∙◌, subst}
use Rattle.js_pool.specs.Says as say
use Rattle.js_pool.specs.declared.node.Else.TheVariants as tail
use Rattle.js_pool.specs.declared.node.Stmt.TheVariants as line
use Rattle.js_body.specs.State.{State, with_line, with_lines_of, is_join, joined}
use Rattle.js_body.specs.Tells.{Tells, around, said}
use Rattle.js_body.specs.Later.{stands_later, says_in_later}
use Rattle.js_body.specs.BlockLaws.{block_says, block_later, parts_block}
use Rattle.js_body.specs.StepLaws.{earlier, from_here, if_true, if_false, parts_line}
use Rattle.js_values.specs.Steps.{TellsIn}
use Rattle.js_values.specs.Logic.{side_line, unjoined}
use Rattle.js_values.proofs.logic.end_plain.Goals as goal

pub returns-then-not-join : goal.returns-then-not-join
returns-then-not-join c =
    let b = c.args.b.now in
    let p = c.close-block.new.self in
    let j = c.join.new.self in
    let q = c.when.new.self in (
      λ end g. c.close-block.ensures.0 end (c.join.ensures.0 end (c.when.ensures.0 end g)),
      λ l t h s x ls base e n.
          let l2 = earlier j.pool q c.when.ensures.0 l in
          let l1 = earlier p j.pool c.join.ensures.0 l2 in
          let r = with_lines_of base s in
          let k = parts_block b.pool p b.stack.items b.temps b.declared.items (around b) s c.args.l.mark.0 c.close-block.result ls base e n c.close-block.ensures l1 x in
          let a = c.join.ensures.1 l2 ls k.0 r k.1 in
          let no : is_join ls r ≡ false = sym a.0 ∙ c.if-not-join.true in
          let same : joined c.args.l.both ls r ≡ r = unjoined c.args.l.both ls r no in
          let g = from_here j.pool q c.when.ensures.0 l in
          let old = from_here b.pool q (λ end z. c.close-block.ensures.0 end (c.join.ensures.0 end (c.when.ensures.0 end z))) l in
          let block = says_in_later g (block_says (block_later (from_here p j.pool c.join.ensures.0 l2) k.0)) in
          subst (λ (z : State). TellsIn q j z) (if_false (is_join ls r) (joined c.args.l.both ls r) (with_line (side_line t ls) r) no)
          (parts_line j.pool q j.stack.items j.temps j.declared.items (around j) r (line.If c.args.l.test c.close-block.result tail.Nothing) (side_line t ls) c.when.ensures l
          (said refl (say.branch (stands_later old h) block say.nothing)) (subst (λ (z : State). Tells j z) same a.1)),
    )

pub returns-else-not-join : goal.returns-else-not-join
returns-else-not-join c =
    let b = c.args.b.now in
    let p = c.close-block.new.self in
    let j = c.join.new.self in (
      λ end g. c.close-block.ensures.0 end (c.join.ensures.0 end g),
      λ l t h s x ls base e n.
          let l1 = earlier p j.pool c.join.ensures.0 l in
          let r = with_lines_of base s in
          let k = parts_block b.pool p b.stack.items b.temps b.declared.items (around b) s c.args.l.mark.0 c.close-block.result ls base e n c.close-block.ensures l1 x in
          let a = c.join.ensures.1 l ls k.0 r k.1 in
          let yes : is_join ls r ≡ true = sym a.0 ∙ c.if-not-join.false in
          subst (λ (z : State). Tells j z) (if_true (is_join ls r) (joined c.args.l.both ls r) (with_line (side_line t ls) r) yes) a.1,
    )
