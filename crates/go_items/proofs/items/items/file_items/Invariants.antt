use Rattle.std.proofs.Common.{◌≡◌, ◌++◌, List, drop, map}
use Rattle.go_syntax.specs.Tree as t
use Rattle.go_syntax.specs.View.{decl_view}
use Rattle.go_typing.specs.Items.{items_from}
use Rattle.go_items.specs.ItemView.{item_view}
use Rattle.go_items.proofs.items.items.file_items.Given as goal

abbrev pub invariant-loop-d : goal.invariant-loop-d
invariant-loop-d l =
    (rest : List t.Decl)
    → map item_view l.all.items.items ++ items_from l.all.types l.all.functions (map decl_view (drop l.d-index l.decls) ++ rest)
    ≡ map item_view l.initial.all.items.items ++ items_from l.initial.all.types l.initial.all.functions (map decl_view l.decls ++ rest)
