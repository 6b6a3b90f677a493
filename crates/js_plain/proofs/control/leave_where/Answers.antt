use Rattle.std.proofs.Common.{◌≡◌, [], ◌∷◌, length, refl, ◌∙◌}
use Rattle.js_pool.specs.Stands.{opened}
use Rattle.js_pool.specs.Says as say
use Rattle.js_pool.specs.declared.node.Else.TheVariants as tail
use Rattle.js_pool.specs.declared.node.Stmt.TheVariants as line
use Rattle.js_body.specs.Tells.{around, said}
use Rattle.js_body.specs.Later.{itself, stands_later, says_in_later}
use Rattle.js_body.specs.BlockLaws.{parts_lines, parts_closed}
use Rattle.js_body.specs.StepLaws.{earlier, from_here, parts_line}
use Rattle.js_plain.specs.Control.{leave_line, left_at, when_line}
use Rattle.js_plain.proofs.control.leave_where.Goals as goal

pub returns : goal.returns
returns c =
    let b = c.args.b.now in
    let d = c.leave_at.new.b in
    let p = c.close-block.new.self in
    let q = c.when.new.self in (
      λ end g. c.leave_at.ensures.0 end (c.close-block.ensures.0 end (c.when.ensures.0 end g)),
      λ l t h s r.
          let m2 = earlier p q c.when.ensures.0 l in
          let m1 = earlier d.pool p c.close-block.ensures.0 m2 in
          let a = c.leave_at.ensures.1 m1 s r in
          let e : c.open-mark.result.0 ≡ length s.lines = c.open-mark.ensures ∙ parts_lines b.pool (opened b.pool) b.stack.items b.temps b.declared.items (around b) s r in
          let k = parts_closed d.pool p d.stack.items d.temps d.declared.items (around d) (left_at c.args.n s) c.open-mark.result.0 c.close-block.result (leave_line c.args.n ∷ []) s.lines refl e c.close-block.ensures m2 a in
          let g = c.when.ensures.0 q (itself q l) in
          let old = from_here b.pool q (λ end z. c.leave_at.ensures.0 end (c.close-block.ensures.0 end (c.when.ensures.0 end z))) l in
          parts_line p q d.stack.items d.temps d.declared.items (around d) s (line.If c.args.test c.close-block.result tail.Nothing) (when_line t (leave_line c.args.n ∷ [])) c.when.ensures l (said refl (say.branch (stands_later old h) (says_in_later g k.0) say.nothing)) k.1,
    )
