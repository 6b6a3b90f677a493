use Rattle.std.proofs.Common.{◌≡◌, drop, map}
use Rattle.js_tree.specs.ScriptRun.{set_globals}
use Rattle.js_tree.specs.View.{item_view}
use Rattle.js_eval.specs.Limited.{Deeper}
use Rattle.js_eval.specs.Seen.{setting_of, world_of}
use Rattle.js_eval.proofs.start.set_globals.Given as goal

abbrev pub invariant-loop-item : goal.invariant-loop-item
invariant-loop-item l =
    (d : Deeper)
    → set_globals (setting_of l.context d) (map item_view l.item-items) (world_of l.initial.world)
    ≡ set_globals (setting_of l.context d) (map item_view (drop l.item-index l.item-items)) (world_of l.world)
