use Rattle.std.proofs.Common.{◌≡◌, ◌++◌, drop, map}
use Rattle.go_syntax.specs.View.{expr_view, exprs_of}
use Rattle.go_typing.specs.Items.{each_name}
use Rattle.go_items.specs.ItemView.{item_view, type_in, values_in}
use Rattle.go_items.proofs.items.constant.with_values.Given as goal

-- the constants so far and those of the names that are left are all
abbrev pub invariant-loop-i : goal.invariant-loop-i
invariant-loop-i l =
    map item_view l.items.items ++ each_name l.number (type_in l.spec) (values_in l.spec) (drop l.i l.names) (exprs_of (map expr_view (drop l.i l.values)))
    ≡ map item_view l.initial.items.items ++ each_name l.number (type_in l.spec) (values_in l.spec) l.names (exprs_of (map expr_view l.values))
