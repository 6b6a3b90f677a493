use Rattle.std.proofs.Common.{[], drop, map}
use Rattle.go_syntax.specs.View.{file_view}
use Rattle.go_items.specs.ItemView.{decls_of}
use Rattle.go_decls.specs.HeadView.{HeadsLeft}
use Rattle.go_decls.proofs.heads.heads.heads.Given as goal

abbrev pub invariant-loop-file : goal.invariant-loop-file
invariant-loop-file l = HeadsLeft l.far l.initial.env l.env [] l.all.items (decls_of (map file_view (drop l.file-index l.files))) (decls_of (map file_view l.files))
