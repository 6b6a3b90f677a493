use Rattle.std.proofs.Common.{◌≡◌, ◌+◌, drop, map}
use Rattle.go_syntax.specs.View.{file_view}
use Rattle.go_typing.specs.Checked.{count_functions}
use Rattle.go_items.specs.ItemView.{decls_of}
use Rattle.go_items.proofs.items.count.count_functions.Given as goal

abbrev pub invariant-loop-file : goal.invariant-loop-file
invariant-loop-file l = l.n + count_functions (decls_of (map file_view (drop l.file-index l.files))) ≡ count_functions (decls_of (map file_view l.files))
