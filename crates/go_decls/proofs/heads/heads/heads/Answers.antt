use Rattle.std.proofs.Common.{◌∙◌, ◌+◌, ◌++◌, List, [], sym, ap, subst, drop, map}
use Rattle.std.proofs.lemmas.List.{append-nil}
use Rattle.go_items.specs.ItemView.{decls_of}
use Rattle.go_syntax.specs.View.{decl_view, file_view}
use Rattle.go_syntax.specs.declared.tree.Decl.{Decl}
use Rattle.go_syntax.specs.declared.tree.File.{File}
use Rattle.go_decls.specs.HeadView.{head_view, HeadsLeft}
use Rattle.go_decls.specs.declared.heads.head.Head.{Head}
use Rattle.go_decls.proofs.HeadsSteps.{next_at, past}
use Rattle.go_decls.proofs.HeadLemmas.{left_first, left_on}
use Rattle.go_decls.proofs.heads.heads.heads.Goals as goal

pub loop-file-init : goal.loop-file-init
loop-file-init c =
    let all = decls_of (map file_view c.args.files.now) in
    subst (λ (hs : List Head). HeadsLeft c.args.far c.args.env.now c.args.env.now [] hs all all) (sym c.new-all.ensures.items) (left_first c.args.far c.args.env.now [] all)

pub loop-file-preserved : goal.loop-file-preserved
loop-file-preserved c =
    let a = c.args.env.now in
    let fs = c.args.files.now in
    let i = c.loop-file.file-index in
    let all = decls_of (map file_view fs) in
    let more = decls_of (map file_view (drop (i + 1) fs)) in
    let here = decls_of (map file_view (drop i fs)) in
    left_on c.args.far a c.loop-file.env c.file_heads.new.env [] c.loop-file.all.items c.file_heads.new.heads.items more here all c.loop-file.invariant
    (subst (HeadsLeft c.args.far c.loop-file.env c.file_heads.new.env c.loop-file.all.items c.file_heads.new.heads.items more)
    (ap (λ (ds : List Decl). map decl_view ds ++ more) c.as_slice.ensures.value ∙ sym (ap (λ (xs : List File). decls_of (map file_view xs)) (next_at fs i c.file-item.result c.loop-file-test.true c.file-item.is)))
    (c.in_ok-file_heads.ensures.value more))

pub returns : goal.returns
returns c =
    let a = c.args.env.now in
    let end =
    subst (λ (xs : List File). HeadsLeft c.args.far a c.loop-file.env [] c.loop-file.all.items (decls_of (map file_view xs)) (decls_of (map file_view c.args.files.now))) (past c.args.files.now c.loop-file.file-index c.loop-file-test.false) c.loop-file.invariant
    in
    record { view = λ ts k. sym (append-nil (map (head_view ts) c.loop-file.all.items)) ∙ end.view ts k; ready = end.ready tt; grows = end.grows }
