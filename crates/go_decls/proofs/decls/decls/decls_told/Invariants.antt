use Rattle.std.proofs.Common.{drop, map}
use Rattle.go_syntax.specs.View.{file_view}
use Rattle.go_operands.specs.AnswerView.{flaw_view}
use Rattle.go_typing.specs.Told.{decls_told}
use Rattle.go_items.specs.ItemView.{decls_of}
use Rattle.go_decls.proofs.DeclLemmas.{Goes}
use Rattle.go_decls.proofs.decls.decls.decls_told.Given as goal

abbrev pub invariant-loop-file : goal.invariant-loop-file
invariant-loop-file l = Goes decls_told l.initial.env l.env (decls_of (map file_view (drop l.file-index l.files))) (decls_of (map file_view l.files)) (map flaw_view l.initial.flaws.items) (map flaw_view l.flaws.items)
