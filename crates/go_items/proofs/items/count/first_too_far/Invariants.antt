use Rattle.std.proofs.Common.{◌≡◌, drop, map}
use Rattle.go_syntax.specs.View.{file_view}
use Rattle.go_typing.specs.Checked.{function_at}
use Rattle.go_items.specs.ItemView.{decls_of}
use Rattle.go_items.proofs.items.count.first_too_far.Given as goal

abbrev pub invariant-loop-file : goal.invariant-loop-file
invariant-loop-file l = function_at l.n (decls_of (map file_view (drop l.file-index l.files))) ≡ function_at 65535 (decls_of (map file_view l.files))
