use Rattle.std.proofs.Common.{◌≡◌, ◌∙◌, ◌+◌, ◌++◌, List, [], sym, ap, drop, map}
use Rattle.go_operands.specs.AnswerView.{flaw_view}
use Rattle.go_typing.specs.Told.{decls_told}
use Rattle.go_syntax.specs.View.{decl_view}
use Rattle.go_syntax.specs.declared.tree.Decl.{Decl}
use Rattle.go_walk.specs.WalkView.{walk_outside}
use Rattle.go_decls.proofs.DeclsSteps.{next_at, past}
use Rattle.go_decls.proofs.DeclLemmas.{iota_none, goes_first, goes_step}
use Rattle.go_decls.proofs.decls.decls.file_told.Goals as goal

pub decl_told-requires : goal.decl_told-requires
decl_told-requires c = let inv = c.loop-d.invariant [] in record { none = iota_none c.args.env.now c.loop-d.env inv.grows c.requires.none }

pub loop-d-init : goal.loop-d-init
loop-d-init c = λ rest. goes_first decls_told c.args.env.now (map decl_view c.args.decls.now ++ rest) (map flaw_view c.args.flaws.now.items)

pub loop-d-preserved : goal.loop-d-preserved
loop-d-preserved c = λ rest.
    let ds = c.args.decls.now in
    let i = c.loop-d.d-index in
    let b = c.loop-d.env in
    let now = map flaw_view c.loop-d.flaws.items in
    goes_step decls_told c.args.env.now b c.decl_told.new.env (map decl_view (drop i ds) ++ rest) (map decl_view (drop (i + 1) ds) ++ rest) (map decl_view ds ++ rest) (map flaw_view c.args.flaws.now.items) now
    (map flaw_view c.decl_told.new.flaws.items)
    (c.in_ok-decl_told.ensures.told (map decl_view (drop (i + 1) ds) ++ rest)
    ∙ ap (λ (xs : List Decl). now ++ decls_told (walk_outside b) (map decl_view xs ++ rest)) (sym (next_at ds i c.d-item.result c.loop-d-test.true c.d-item.is)))
    c.in_ok-decl_told.ensures.grows (c.loop-d.invariant rest)

pub returns : goal.returns
returns c = record {
  told = λ rest.
      let inv = c.loop-d.invariant rest in
      ap (λ (xs : List Decl). map flaw_view c.loop-d.flaws.items ++ decls_told (walk_outside c.args.env.now) (map decl_view xs ++ rest)) (sym (past c.args.decls.now c.loop-d.d-index c.loop-d-test.false)) ∙ inv.told_so;
  grows = let inv = c.loop-d.invariant [] in inv.grows;
}
