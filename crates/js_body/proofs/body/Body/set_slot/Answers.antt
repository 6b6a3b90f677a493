use Rattle.std.proofs.Common.{◌≡◌, true, false, refl, sym, ap, ◌∙◌}
use Rattle.js_tree.specs.Script as script
use Rattle.js_pool.specs.Tree as tree
use Rattle.js_pool.specs.Says as say
use Rattle.js_pool.specs.declared.name.Name.TheVariants as name
use Rattle.js_pool.specs.declared.node.Stmt.TheVariants as line
use Rattle.js_body.specs.State.{Around, assigns, says, var_word, frame_tree, mentioned}
use Rattle.js_body.specs.Tells.{around, assigned, said}
use Rattle.js_body.specs.Later.{itself, stands_later}
use Rattle.js_body.specs.StepLaws.{earlier, from_here, if_true, if_false, parts_line, parts_same}
use Rattle.js_body.proofs.body.Body.set_slot.Goals as goal

pub returns-then-self : goal.returns-then-self
returns-then-self c =
    let b = c.args.self.now in
    let m = c.mention.new.self in
    let q = c.assign.new.self in (
      λ end g. c.mention.ensures.0 end (c.assign.ensures.0 end g),
      λ l t h s r.
          let a = c.mention.ensures.1 (earlier m.pool q c.assign.ensures.0 l) s r in
          let old = from_here b.pool q (λ end g. c.mention.ensures.0 end (c.assign.ensures.0 end g)) l in
          let k : s.around.plain ≡ true = sym (ap (λ (near : Around). near.plain) r.around_is) ∙ c.if-self.true in
          parts_same _ _ _ _ _ _ _ _ (if_true s.around.plain _ _ k)
          (parts_line m.pool q m.stack.items m.temps m.declared.items (around m) (mentioned c.args.n s) _ (assigns (var_word c.args.n) t) c.assign.ensures l (assigned (stands_later old h)) a),
    )

pub returns-else-self : goal.returns-else-self
returns-else-self c =
    let b = c.args.self.now in
    let m = c.frame-f.new.self in
    let q = c.store_at.new.self in (
      λ end g. c.frame-f.ensures.0 end (c.store_at.ensures.1.0 end g),
      λ l t h s r.
          let a = c.frame-f.ensures.1 (earlier m.pool q c.store_at.ensures.1.0 l) s r in
          let g = c.store_at.ensures.1.0 q (itself q l) in
          let old = from_here b.pool q (λ end z. c.frame-f.ensures.0 end (c.store_at.ensures.1.0 end z)) l in
          let k : s.around.plain ≡ false = sym (ap (λ (near : Around). near.plain) r.around_is) ∙ c.if-self.false in
          parts_same _ _ _ _ _ _ _ _ (if_false s.around.plain _ _ k)
          (parts_line m.pool q m.stack.items m.temps m.declared.items (around m) s (line.Store c.frame-f.result c.store_at.ensures.0 c.args.e) (says (script.store 0 frame_tree (tree.number c.args.n) t)) c.store_at.ensures.1 l (said refl (say.store (stands_later g a.0) (c.store_at.ensures.2 q (itself q l)) (stands_later old h))) a.1),
    )
