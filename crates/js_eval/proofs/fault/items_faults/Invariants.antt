use Rattle.std.proofs.Common.{◌≡◌, ◌++◌, drop, map}
use Rattle.js_tree.specs.Static.{items_faults, preamble_names}
use Rattle.js_tree.specs.View.{item_view}
use Rattle.js_eval.specs.Seen.{names_of}
use Rattle.js_eval.proofs.fault.items_faults.Given as goal

abbrev pub invariant-loop-item : goal.invariant-loop-item
invariant-loop-item l =
    l.faults.items ++ items_faults (names_of l.before.items ++ preamble_names) (map item_view (drop l.item-index l.items))
    ≡ items_faults preamble_names (map item_view l.items)
