use Rattle.std.proofs.Common.{◌≡◌, ◌+◌, drop, map}
use Rattle.go_syntax.specs.View.{decl_view}
use Rattle.go_typing.specs.Checked.{count_functions}
use Rattle.go_items.proofs.items.count.count_from.Given as goal

abbrev pub invariant-loop-d : goal.invariant-loop-d
invariant-loop-d l = l.n + count_functions (map decl_view (drop l.d-index l.decls)) ≡ l.id + count_functions (map decl_view l.decls)
