use Rattle.std.proofs.Common.{◌≡◌, ◌++◌, List, drop, map}
use Rattle.go_syntax.specs.Tree as t
use Rattle.go_syntax.specs.View.{decl_view}
use Rattle.go_typing.specs.Checked.{main_from}
use Rattle.go_items.proofs.items.count.main_in.Given as goal

abbrev pub invariant-loop-d : goal.invariant-loop-d
invariant-loop-d l = (rest : List t.Decl) → main_from l.n (map decl_view (drop l.d-index l.decls) ++ rest) ≡ main_from l.id (map decl_view l.decls ++ rest)
