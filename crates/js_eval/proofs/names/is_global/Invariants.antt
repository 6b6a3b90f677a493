use Rattle.std.proofs.Common.{◌≡◌, drop, map}
use Rattle.js_tree.specs.Evaluate.{is_global}
use Rattle.js_tree.specs.View.{item_view}
use Rattle.js_eval.proofs.names.is_global.Given as goal

abbrev pub invariant-loop-item : goal.invariant-loop-item
invariant-loop-item l = is_global l.x (map item_view (drop l.item-index l.items)) ≡ is_global l.x (map item_view l.items)
