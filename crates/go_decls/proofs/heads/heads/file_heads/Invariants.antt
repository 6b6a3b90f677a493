use Rattle.std.proofs.Common.{◌++◌, List, drop, map}
use Rattle.go_syntax.specs.Tree as t
use Rattle.go_syntax.specs.View.{decl_view}
use Rattle.go_decls.specs.HeadView.{HeadsLeft}
use Rattle.go_decls.proofs.heads.heads.file_heads.Given as goal

abbrev pub invariant-loop-d : goal.invariant-loop-d
invariant-loop-d l = (rest : List t.Decl) → HeadsLeft l.far l.initial.env l.env l.initial.heads.items l.heads.items (map decl_view (drop l.d-index l.decls) ++ rest) (map decl_view l.decls ++ rest)
