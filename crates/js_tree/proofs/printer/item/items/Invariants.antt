use Rattle.std.proofs.Common.{◌≡◌, ◌++◌, drop, map}
use Rattle.js_tree.specs.View.{item_view}
use Rattle.js_tree.specs.Printed.{items_text}
use Rattle.js_tree.proofs.printer.item.items.Given as goal

abbrev pub invariant-loop-x : goal.invariant-loop-x
invariant-loop-x l =
    l.out ++ items_text (map item_view (drop l.x-index l.list)) ≡ l.initial.out ++ items_text (map item_view l.list)
