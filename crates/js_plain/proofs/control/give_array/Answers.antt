use Rattle.std.proofs.Common.{◌≡◌, ◌-◌, length, take, drop, arith, Some, refl, sym}
use Rattle.std.proofs.lemmas.List.{length-drop, take-append-drop}
use Rattle.js_tree.specs.Script.{no_exprs}
use Rattle.js_pool.specs.Tree as tree
use Rattle.js_pool.specs.Stands.{Stands}
use Rattle.js_pool.specs.Says as say
use Rattle.js_pool.specs.declared.node.Stmt.TheVariants as line
use Rattle.js_body.specs.State.{list_tree, with_items_of}
use Rattle.js_body.specs.Tells.{around, said}
use Rattle.js_body.specs.Later.{list_later}
use Rattle.js_body.specs.ListLaws.{parts_listed}
use Rattle.js_body.specs.StepLaws.{earlier, from_here, parts_kept, parts_line}
use Rattle.js_plain.specs.Control.{array_line}
use Rattle.js_plain.proofs.control.give_array.Goals as goal

pub returns : goal.returns
returns c =
    let b = c.args.b.now in
    let p = c.close_list-items.new.self in
    let m = c.array-e.new.self in
    let q = c.give.new.self in
    let mark = c.args.mark.0 in (
      λ end g. c.close_list-items.ensures.0 end (c.array-e.ensures.0.0 end (c.give.ensures.0 end g)),
      λ l s t n.
          let l2 = earlier m q c.give.ensures.0 l in
          let l1 = earlier p m c.array-e.ensures.0.0 l2 in
          let k = length s.items - mark in
          let e : mark ≡ length (drop k s.items) = omega (arith, length-drop k s.items, n) in
          let d = parts_listed b.pool p b.stack.items b.temps b.declared.items (around b) s mark c.close_list-items.result (take k s.items) (drop k s.items) (sym (take-append-drop k s.items)) e c.close_list-items.ensures l1 t in
          let z = with_items_of (drop k s.items) s in
          let ts = list_tree (take k s.items) no_exprs in
          let g = from_here p q (λ end w. c.array-e.ensures.0.0 end (c.give.ensures.0 end w)) l in
          let a : Stands q c.array-e.result (tree.array ts) = c.array-e.ensures.1 q (from_here m q c.give.ensures.0 l) ts (list_later g d.0) in
          parts_line m q b.stack.items b.temps b.declared.items (around b) z (line.Return (Some c.array-e.result)) (array_line (take k s.items)) c.give.ensures l (said refl (say.give a))
          (parts_kept p m b.stack.items b.temps b.declared.items (around b) z c.array-e.ensures.0 l2 d.1),
    )
