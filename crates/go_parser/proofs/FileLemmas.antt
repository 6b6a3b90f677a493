-- What the lists of a file are with one part more.
use Rattle.std.proofs.Common.{◌≡◌, ◌∙◌, ◌∷◌, ◌++◌, List, [], map, ap, sym}
use Rattle.std.proofs.lemmas.List.{map-append}
use Rattle.go_syntax.specs.Tree as t
use Rattle.go_syntax.specs.View.{decl_view, import_view}
use Rattle.go_syntax.specs.declared.tree.Decl.{Decl}
use Rattle.go_syntax.specs.declared.tree.Import.{Import}
use Rattle.go_grammar.specs.Frames as f
use Rattle.go_grammar.specs.Nodes.{and}
use Rattle.go_grammar.specs.StmtSteps as rows

pub and_import : (x : f.FilePart) (xs all : List Import) (i : Import) → x.imports ≡ map import_view xs → all ≡ xs ++ i ∷ [] → record x { imports = map import_view all } ≡ rows.with_import x (import_view i)
and_import x xs all i same e =
    ap (λ (js : List t.Import). record x { imports = js })
    (ap (map import_view) e ∙ map-append import_view xs (i ∷ []) ∙ ap (λ (js : List t.Import). and js (import_view i)) (sym same))

pub and_decl : (x : f.FilePart) (xs all : List Decl) (d : Decl) → x.decls ≡ map decl_view xs → all ≡ xs ++ d ∷ [] → record x { decls = map decl_view all } ≡ record x { decls = and x.decls (decl_view d) }
and_decl x xs all d same e =
    ap (λ (ds : List t.Decl). record x { decls = ds })
    (ap (map decl_view) e ∙ map-append decl_view xs (d ∷ []) ∙ ap (λ (ds : List t.Decl). and ds (decl_view d)) (sym same))
