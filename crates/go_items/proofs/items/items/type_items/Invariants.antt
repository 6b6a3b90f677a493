use Rattle.std.proofs.Common.{◌≡◌, ◌++◌, drop, map}
use Rattle.go_syntax.specs.Tree as t
use Rattle.go_syntax.specs.View.{type_spec_view, joined}
use Rattle.go_typing.specs.Items.{type_items, types_after}
use Rattle.go_items.specs.ItemView.{item_view}
use Rattle.go_items.proofs.items.items.type_items.Given as goal

-- the types so far and those that are left are all, and so are their numbers
abbrev pub invariant-loop-spec : goal.invariant-loop-spec
invariant-loop-spec l = record {
  items :
      map item_view l.all.items.items ++ type_items l.all.types (joined (map type_spec_view (drop l.spec-index l.specs)) t.NoTypes)
      ≡ map item_view l.initial.all.items.items ++ type_items l.initial.all.types (joined (map type_spec_view l.specs) t.NoTypes);
  types :
      types_after l.all.types (joined (map type_spec_view (drop l.spec-index l.specs)) t.NoTypes)
      ≡ types_after l.initial.all.types (joined (map type_spec_view l.specs) t.NoTypes);
  functions : l.all.functions ≡ l.initial.all.functions;
}
