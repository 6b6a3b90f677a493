use Rattle.std.proofs.Common.{◌≡◌, ◌++◌, drop, map}
use Rattle.go_syntax.specs.Tree as t
use Rattle.go_typing.specs.Items.{each_name}
use Rattle.go_items.specs.ItemView.{item_view, type_in, values_in}
use Rattle.go_items.proofs.items.constant.without_values.Given as goal

abbrev pub invariant-loop-name : goal.invariant-loop-name
invariant-loop-name l =
    map item_view l.items.items ++ each_name l.number (type_in l.spec) (values_in l.spec) (drop l.name-index l.names) t.NoExprs
    ≡ map item_view l.initial.items.items ++ each_name l.number (type_in l.spec) (values_in l.spec) l.names t.NoExprs
