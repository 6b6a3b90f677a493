use Rattle.std.proofs.Common.{◌++◌, List, drop, map}
use Rattle.go_syntax.specs.Tree as t
use Rattle.go_syntax.specs.View.{decl_view}
use Rattle.go_operands.specs.AnswerView.{flaw_view}
use Rattle.go_typing.specs.Told.{decls_told}
use Rattle.go_decls.proofs.DeclLemmas.{Goes}
use Rattle.go_decls.proofs.decls.decls.file_told.Given as goal

abbrev pub invariant-loop-d : goal.invariant-loop-d
invariant-loop-d l = (rest : List t.Decl) → Goes decls_told l.initial.env l.env (map decl_view (drop l.d-index l.decls) ++ rest) (map decl_view l.decls ++ rest) (map flaw_view l.initial.flaws.items) (map flaw_view l.flaws.items)
