use Rattle.std.proofs.Common.{◌≡◌, drop, map}
use Rattle.go_syntax.specs.View.{file_view}
use Rattle.go_typing.specs.Checked.{main_from}
use Rattle.go_items.specs.ItemView.{decls_of}
use Rattle.go_items.proofs.items.count.main_number.Given as goal

abbrev pub invariant-loop-file : goal.invariant-loop-file
invariant-loop-file l = main_from l.n (decls_of (map file_view (drop l.file-index l.files))) ≡ main_from 0 (decls_of (map file_view l.files))
