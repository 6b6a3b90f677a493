use Rattle.std.proofs.Common.{◌≡◌, ◌++◌, drop, map}
use Rattle.go_syntax.specs.View.{file_view}
use Rattle.go_typing.specs.Items.{items_from, items_of}
use Rattle.go_items.specs.ItemView.{item_view, decls_of}
use Rattle.go_items.proofs.items.items.items_of.Given as goal

abbrev pub invariant-loop-file : goal.invariant-loop-file
invariant-loop-file l =
    map item_view l.all.items.items ++ items_from l.all.types l.all.functions (decls_of (map file_view (drop l.file-index l.files)))
    ≡ items_of (decls_of (map file_view l.files))
