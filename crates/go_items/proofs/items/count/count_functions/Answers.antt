use Rattle.std.proofs.Common.{arith, ◌≡◌, ◌+◌, ◌∙◌, sym, ap, List, drop, map}
use Rattle.go_syntax.specs.View.{decl_view, file_view}
use Rattle.go_syntax.specs.declared.tree.Decl.{Decl}
use Rattle.go_syntax.specs.declared.tree.File.{File}
use Rattle.go_typing.specs.Checked.{count_functions}
use Rattle.go_items.specs.ItemView.{decls_of}
use Rattle.go_items.proofs.CountLemmas.{count_both}
use Rattle.go_items.proofs.ListLemmas.{next_at}
use Rattle.go_items.proofs.items.count.count_functions.Goals as goal

pub loop-file-preserved : goal.loop-file-preserved
loop-file-preserved c =
    let rest = decls_of (map file_view (drop (c.loop-file.file-index + 1) c.args.files.now)) in
    let e : count_functions (decls_of (map file_view (drop c.loop-file.file-index c.args.files.now))) ≡ count_functions (map decl_view c.as_slice.result.now) + count_functions rest =
    ap (λ (fs : List File). count_functions (decls_of (map file_view fs))) (next_at c.args.files.now c.loop-file.file-index c.file-item.result c.loop-file-test.true c.file-item.is)
    ∙ count_both (map decl_view c.file-item.result.decls.items) rest
    ∙ ap (λ (ds : List Decl). count_functions (map decl_view ds) + count_functions rest) (sym c.as_slice.ensures.value)
    in
    omega (arith, e, c.in_ok-n.ensures.value, c.loop-file.invariant)
