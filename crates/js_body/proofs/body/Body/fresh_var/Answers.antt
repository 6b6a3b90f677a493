use Rattle.std.proofs.Common.{subst}
use Rattle.js_tree.specs.Script.{Expr}
use Rattle.js_pool.specs.Tree as tree
use Rattle.js_pool.specs.Stands.{Stands}
use Rattle.js_body.specs.Tells.{around}
use Rattle.js_body.specs.Later.{itself, stands_later}
use Rattle.js_body.specs.StepLaws.{if_true, if_false, parts_kept}
use Rattle.js_body.proofs.body.Body.fresh_var.Goals as goal

pub returns-then-boxed : goal.returns-then-boxed
returns-then-boxed c =
    let b = c.args.self.now in
    let q = c.single.new.self in (
      c.single.ensures.0.0,
      λ l t h s r.
          let g = c.single.ensures.0.0 q (itself q l) in (
            subst (λ (z : Expr). Stands q c.single.result z) (if_true c.args.boxed (tree.array (tree.list1 t)) t c.if-boxed.true) (c.single.ensures.1 q (itself q l) t (stands_later g h)),
            parts_kept b.pool q b.stack.items b.temps b.declared.items (around b) s c.single.ensures.0 l r,
          ),
    )

pub returns-else-boxed : goal.returns-else-boxed
returns-else-boxed c = (
  λ end g. g,
  λ l t h s r. (subst (λ (z : Expr). Stands c.args.self.now.pool c.args.value z) (if_false c.args.boxed (tree.array (tree.list1 t)) t c.if-boxed.false) h, r),
)
