use Rattle.std.proofs.Common.{subst}
use Rattle.js_tree.specs.Script.{Expr}
use Rattle.js_pool.specs.Tree as tree
use Rattle.js_pool.specs.Stands.{Stands}
use Rattle.js_body.specs.State.{slot_tree, slot_read}
use Rattle.js_body.specs.Tells.{around}
use Rattle.js_body.specs.Later.{itself, stands_later}
use Rattle.js_body.specs.StepLaws.{earlier, if_true, if_false, parts_kept}
use Rattle.js_body.proofs.body.Body.var.Goals as goal

pub returns-then-h : goal.returns-then-h
returns-then-h c =
    let m = c.slot-slot.new.self in
    let q = c.at.new.self in (
      λ end g. c.slot-slot.ensures.0 end (c.at.ensures.0.0 end g),
      λ l s t.
          let a = c.slot-slot.ensures.1 (earlier m.pool q c.at.ensures.0.0 l) s t in
          let g = c.at.ensures.0.0 q (itself q l) in (
            subst (λ (z : Expr). Stands q c.at.result z) (if_true c.args.h.boxed (tree.index (slot_tree c.args.h.slot s) (tree.number 0)) (slot_tree c.args.h.slot s) c.if-h.true) (c.at.ensures.1 q (itself q l) (slot_tree c.args.h.slot s) (stands_later g a.0)),
            parts_kept m.pool q m.stack.items m.temps m.declared.items (around m) (slot_read c.args.h.slot s) c.at.ensures.0 l a.1,
          ),
    )

pub returns-else-h : goal.returns-else-h
returns-else-h c =
    let m = c.slot-slot.new.self in (
      c.slot-slot.ensures.0,
      λ l s t.
          let a = c.slot-slot.ensures.1 l s t in
          (subst (λ (z : Expr). Stands m.pool c.slot-slot.result z) (if_false c.args.h.boxed (tree.index (slot_tree c.args.h.slot s) (tree.number 0)) (slot_tree c.args.h.slot s) c.if-h.false) a.0, a.1),
    )
