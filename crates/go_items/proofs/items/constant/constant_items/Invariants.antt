use Rattle.std.proofs.Common.{◌≡◌, ◌++◌, drop, map}
use Rattle.go_syntax.specs.Tree as t
use Rattle.go_syntax.specs.View.{value_spec_view, joined}
use Rattle.go_typing.specs.Items.{constant_items}
use Rattle.go_items.specs.ItemView.{item_view, type_in, values_in}
use Rattle.go_items.proofs.items.constant.constant_items.Given as goal

-- the constants so far and those of the specifications that are left are all
abbrev pub invariant-loop-spec : goal.invariant-loop-spec
invariant-loop-spec l =
    map item_view l.items.items ++ constant_items l.number (type_in l.source) (values_in l.source) (joined (map value_spec_view (drop l.spec-index l.specs)) t.NoValues)
    ≡ map item_view l.initial.items.items ++ constant_items 0 t.NoExpr t.NoExprs (joined (map value_spec_view l.specs) t.NoValues)
