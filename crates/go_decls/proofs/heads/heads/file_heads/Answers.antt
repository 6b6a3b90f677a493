use Rattle.std.proofs.Common.{◌+◌, ◌++◌, List, ◌∷◌, subst, drop, map}
use Rattle.go_syntax.specs.View.{decl_view}
use Rattle.go_syntax.specs.declared.tree.Decl.{Decl}
use Rattle.go_decls.specs.HeadView.{HeadsLeft}
use Rattle.go_decls.proofs.HeadsSteps.{next_at, past}
use Rattle.go_decls.proofs.HeadLemmas.{left_first, left_on}
use Rattle.go_decls.proofs.heads.heads.file_heads.Goals as goal

pub loop-d-init : goal.loop-d-init
loop-d-init c = λ rest. left_first c.args.far c.args.env.now c.args.heads.now.items (map decl_view c.args.decls.now ++ rest)

pub loop-d-preserved : goal.loop-d-preserved
loop-d-preserved c = λ rest.
    let ds = c.args.decls.now in
    let i = c.loop-d.d-index in
    let all = map decl_view ds ++ rest in
    let more = map decl_view (drop (i + 1) ds) ++ rest in
    left_on c.args.far c.args.env.now c.loop-d.env c.and_decl.new.env c.args.heads.now.items c.loop-d.heads.items c.and_decl.new.heads.items more (decl_view c.d-item.result ∷ more) all
    (subst (λ (xs : List Decl). HeadsLeft c.args.far c.args.env.now c.loop-d.env c.args.heads.now.items c.loop-d.heads.items (map decl_view xs ++ rest) all) (next_at ds i c.d-item.result c.loop-d-test.true c.d-item.is) (c.loop-d.invariant rest))
    (c.in_ok-and_decl.ensures.value more)

pub returns : goal.returns
returns c = record {
  value = λ rest.
      subst (λ (xs : List Decl). HeadsLeft c.args.far c.args.env.now c.loop-d.env c.args.heads.now.items c.loop-d.heads.items (map decl_view xs ++ rest) (map decl_view c.args.decls.now ++ rest))
      (past c.args.decls.now c.loop-d.d-index c.loop-d-test.false) (c.loop-d.invariant rest);
}
