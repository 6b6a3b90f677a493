use Rattle.std.proofs.Common.{sym, subst, List, ◌∙◌, map, take}
use Rattle.js_tree.specs.Script.{Item}
use Rattle.js_tree.specs.View.{item_view}
use Rattle.js_steps.proofs.BodiesMade.{AreMade}
use Rattle.js_steps.proofs.Sound.{functions_of, added_body, next_item, all_items, program}
use Rattle.js_steps.proofs.bodies.make.bodies.Goals as goal

pub loop-item-preserved : goal.loop-item-preserved
loop-item-preserved c = λ script n.
    let items = c.args.items.now in
    let i = c.loop-item.item-index in
    subst (λ (xs : List Item). AreMade script (functions_of xs) c.add_body.new.made.items) (next_item items i c.item-item.result c.loop-item-test.true c.item-item.is)
    (added_body script (map item_view (take i items)) (item_view c.item-item.result) c.loop-item.made.items c.add_body.new.made.items (c.loop-item.invariant script n) (c.in_ok-add_body.ensures.value script n))

pub returns : goal.returns
returns c = record {
  value = λ script e s n.
      program script c.loop-item.made.items s
      (subst (λ (xs : List Item). AreMade script (functions_of xs) c.loop-item.made.items) (all_items c.args.items.now c.loop-item.item-index c.loop-item-test.false ∙ sym e) (c.loop-item.invariant script n));
}
