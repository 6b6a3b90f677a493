use Rattle.std.proofs.Common.{◌≡◌, ◌++◌, drop, map}
use Rattle.go_typing.specs.Items.{each_variable}
use Rattle.go_items.specs.ItemView.{item_view}
use Rattle.go_items.proofs.items.items.each_variable.Given as goal

abbrev pub invariant-loop-name : goal.invariant-loop-name
invariant-loop-name l = map item_view l.items.items ++ each_variable (drop l.name-index l.names) ≡ map item_view l.initial.items.items ++ each_variable l.names
