use Rattle.std.proofs.Common.{◌≡◌, drop, map, true}
use Rattle.std.specs.List.{list_all}
use Rattle.js_tree.specs.View.{item_view}
use Rattle.js_tree.specs.Printable.{item_fits}
use Rattle.js_printable.proofs.script.items.Given as goal

-- where those that are left fit, all do
abbrev pub invariant-loop-x : goal.invariant-loop-x
invariant-loop-x l = list_all item_fits (map item_view (drop l.x-index l.list)) ≡ true → list_all item_fits (map item_view l.list) ≡ true
