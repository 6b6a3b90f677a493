use Rattle.std.proofs.Common.{◌+◌, List, subst, drop, map}
use Rattle.go_operands.specs.AnswerView.{flaw_view}
use Rattle.go_items.specs.declared.items.item.Item.{Item}
use Rattle.go_items.specs.ItemView.{item_view}
use Rattle.go_decls.proofs.ToldSteps.{next_at, past}
use Rattle.go_decls.proofs.ToldNameLemmas.{Left, left_first, left_step, left_last}
use Rattle.go_decls.proofs.told.names.names_told.Goals as goal

pub loop-item-init : goal.loop-item-init
loop-item-init c = left_first (map item_view c.args.items.now) (map flaw_view c.args.flaws.now.items) c.new-seen.result c.new-seen.ensures

pub loop-item-preserved : goal.loop-item-preserved
loop-item-preserved c =
    let items = c.args.items.now in
    let before = map flaw_view c.args.flaws.now.items in
    let now = map flaw_view c.loop-item.flaws.items in
    left_step (item_view c.item-item.result) (map item_view (drop (c.loop-item.item-index + 1) items)) (map item_view items) before now (map flaw_view c.and_item.new.flaws.items) c.loop-item.seen c.and_item.new.seen
    c.in_ok-and_item.ensures.told c.in_ok-and_item.ensures.seen
    (subst (λ (is : List Item). Left (map item_view is) (map item_view items) before now c.loop-item.seen) (next_at items c.loop-item.item-index c.item-item.result c.loop-item-test.true c.item-item.is) c.loop-item.invariant)

pub returns : goal.returns
returns c = record {
  told =
      let items = c.args.items.now in
      let before = map flaw_view c.args.flaws.now.items in
      let now = map flaw_view c.loop-item.flaws.items in
      left_last (map item_view items) before now c.loop-item.seen
      (subst (λ (is : List Item). Left (map item_view is) (map item_view items) before now c.loop-item.seen) (past items c.loop-item.item-index c.loop-item-test.false) c.loop-item.invariant);
}
