use Rattle.std.proofs.Common.{◌≡◌, ◌≤◌, drop, map}
use Rattle.js_tree.specs.Evaluate.{find_function}
use Rattle.js_tree.specs.View.{item_view}
use Rattle.js_eval.specs.Weight.{items_weight}
use Rattle.js_eval.proofs.names.find_function.Given as goal

abbrev pub invariant-loop-item : goal.invariant-loop-item
invariant-loop-item l =
    (find_function l.x (map item_view (drop l.item-index l.items)) ≡ find_function l.x (map item_view l.items))
    × (items_weight (map item_view (drop l.item-index l.items)) ≤ items_weight (map item_view l.items))
