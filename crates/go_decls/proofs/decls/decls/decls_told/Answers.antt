use Rattle.std.proofs.Common.{◌≡◌, ◌∙◌, ◌+◌, ◌++◌, List, sym, ap, drop, map}
use Rattle.std.proofs.lemmas.List.{append-nil}
use Rattle.go_operands.specs.AnswerView.{flaw_view}
use Rattle.go_items.specs.ItemView.{decls_of}
use Rattle.go_typing.specs.Told.{decls_told}
use Rattle.go_syntax.specs.View.{decl_view, file_view}
use Rattle.go_syntax.specs.declared.tree.Decl.{Decl}
use Rattle.go_syntax.specs.declared.tree.File.{File}
use Rattle.go_walk.specs.WalkView.{walk_outside}
use Rattle.go_decls.proofs.DeclsSteps.{next_at, past}
use Rattle.go_decls.proofs.DeclLemmas.{iota_none, goes_first, goes_step}
use Rattle.go_decls.proofs.decls.decls.decls_told.Goals as goal

pub file_told-requires : goal.file_told-requires
file_told-requires c = record { none = iota_none c.args.env.now c.loop-file.env c.loop-file.invariant.grows c.requires.none }

pub loop-file-init : goal.loop-file-init
loop-file-init c = goes_first decls_told c.args.env.now (decls_of (map file_view c.args.files.now)) (map flaw_view c.args.flaws.now.items)

pub loop-file-preserved : goal.loop-file-preserved
loop-file-preserved c =
    let fs = c.args.files.now in
    let i = c.loop-file.file-index in
    let b = c.loop-file.env in
    let now = map flaw_view c.loop-file.flaws.items in
    let rest = decls_of (map file_view (drop (i + 1) fs)) in
    goes_step decls_told c.args.env.now b c.file_told.new.env (decls_of (map file_view (drop i fs))) rest (decls_of (map file_view fs)) (map flaw_view c.args.flaws.now.items) now (map flaw_view c.file_told.new.flaws.items)
    (c.in_ok-file_told.ensures.told rest ∙ ap (λ (ds : List Decl). now ++ decls_told (walk_outside b) (map decl_view ds ++ rest)) c.as_slice.ensures.value
    ∙ ap (λ (xs : List File). now ++ decls_told (walk_outside b) (decls_of (map file_view xs))) (sym (next_at fs i c.file-item.result c.loop-file-test.true c.file-item.is)))
    c.in_ok-file_told.ensures.grows c.loop-file.invariant

pub returns : goal.returns
returns c =
    let now = map flaw_view c.loop-file.flaws.items in
    record {
      told =
          sym (append-nil now)
          ∙ ap (λ (xs : List File). now ++ decls_told (walk_outside c.args.env.now) (decls_of (map file_view xs))) (sym (past c.args.files.now c.loop-file.file-index c.loop-file-test.false))
          ∙ c.loop-file.invariant.told_so;
      grows = c.loop-file.invariant.grows;
    }
