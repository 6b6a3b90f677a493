use Rattle.std.proofs.Common.{◌≡◌, true, false, sym, ap, ◌∙◌, subst}
use Rattle.js_tree.specs.Script.{Expr}
use Rattle.js_pool.specs.Tree as tree
use Rattle.js_pool.specs.Stands.{Stands}
use Rattle.js_body.specs.State.{Around, word_bytes, var_word, frame_tree, mentioned}
use Rattle.js_body.specs.Tells.{around}
use Rattle.js_body.specs.Later.{itself, stands_later}
use Rattle.js_body.specs.StepLaws.{earlier, if_true, if_false, parts_kept, parts_same}
use Rattle.js_body.proofs.body.Body.slot.Goals as goal

pub returns-then-self : goal.returns-then-self
returns-then-self c =
    let m = c.mention.new.self in
    let q = c.name_of.new.self in (
      λ end g. c.mention.ensures.0 end (c.name_of.ensures.0.0 end g),
      λ l s t.
          let a = c.mention.ensures.1 (earlier m.pool q c.name_of.ensures.0.0 l) s t in
          let k : s.around.plain ≡ true = sym (ap (λ (near : Around). near.plain) t.around_is) ∙ c.if-self.true in (
            subst (λ (z : Expr). Stands q c.name_of.result z) (if_true s.around.plain (tree.name (word_bytes (var_word c.args.n))) (tree.index frame_tree (tree.number c.args.n)) k) (c.name_of.ensures.1 q (itself q l)),
            parts_same _ _ _ _ _ _ _ _ (if_true s.around.plain (mentioned c.args.n s) s k) (parts_kept m.pool q m.stack.items m.temps m.declared.items (around m) (mentioned c.args.n s) c.name_of.ensures.0 l a),
          ),
    )

pub returns-else-self : goal.returns-else-self
returns-else-self c =
    let m = c.frame-f.new.self in
    let q = c.at.new.self in (
      λ end g. c.frame-f.ensures.0 end (c.at.ensures.0.0 end g),
      λ l s t.
          let a = c.frame-f.ensures.1 (earlier m.pool q c.at.ensures.0.0 l) s t in
          let g = c.at.ensures.0.0 q (itself q l) in
          let k : s.around.plain ≡ false = sym (ap (λ (near : Around). near.plain) t.around_is) ∙ c.if-self.false in (
            subst (λ (z : Expr). Stands q c.at.result z) (if_false s.around.plain (tree.name (word_bytes (var_word c.args.n))) (tree.index frame_tree (tree.number c.args.n)) k) (c.at.ensures.1 q (itself q l) frame_tree (stands_later g a.0)),
            parts_same _ _ _ _ _ _ _ _ (if_false s.around.plain (mentioned c.args.n s) s k) (parts_kept m.pool q m.stack.items m.temps m.declared.items (around m) s c.at.ensures.0 l a.1),
          ),
    )
