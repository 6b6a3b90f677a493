use Rattle.std.proofs.Common.{map, take}
use Rattle.js_tree.specs.Script.{ScriptTree}
use Rattle.js_tree.specs.View.{item_view}
use Rattle.js_code.specs.Names.{names_of}
use Rattle.js_steps.specs.Bodies.{AreNames}
use Rattle.js_run.specs.Firsts.{AreFirsts}
use Rattle.js_run.proofs.whole.prepare.firsts_of.Given as goal

-- the first values that were seen
abbrev pub invariant-loop-item : goal.invariant-loop-item
invariant-loop-item l =
    (script : ScriptTree) → AreNames script (names_of l.functions.set.keys) (names_of l.globals.set.keys)
    → AreFirsts script (map item_view (take l.item-index l.items)) l.made.items
