use Rattle.std.proofs.Common.{◌≡◌, ◌++◌, drop, map}
use Rattle.go_syntax.specs.Tree as t
use Rattle.go_syntax.specs.View.{value_spec_view, joined}
use Rattle.go_typing.specs.Items.{variable_items}
use Rattle.go_items.specs.ItemView.{item_view}
use Rattle.go_items.proofs.items.items.variable_items.Given as goal

abbrev pub invariant-loop-spec : goal.invariant-loop-spec
invariant-loop-spec l =
    map item_view l.items.items ++ variable_items (joined (map value_spec_view (drop l.spec-index l.specs)) t.NoValues)
    ≡ map item_view l.initial.items.items ++ variable_items (joined (map value_spec_view l.specs) t.NoValues)
