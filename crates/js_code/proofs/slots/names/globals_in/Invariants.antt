use Rattle.std.proofs.Common.{◌≡◌, drop, map}
use Rattle.js_tree.specs.View.{item_view}
use Rattle.js_code.specs.Names.{names_of, with_names, distinct, global_names}
use Rattle.js_code.proofs.slots.names.globals_in.Given as goal

abbrev pub invariant-loop-item : goal.invariant-loop-item
invariant-loop-item l =
    with_names (names_of l.names.set.keys) (global_names (map item_view (drop l.item-index l.items))) ≡ distinct (global_names (map item_view l.items))
