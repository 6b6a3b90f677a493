use Rattle.std.proofs.Common.{◌∙◌, ap, refl, true, List, ◌∷◌, [], ◌++◌, map}
use Rattle.go_type.specs.Levels.{trees_of}
use Rattle.go_core.specs.CoreTree as core
use Rattle.go_core.specs.CoreView.{expr_view, exprs_of, stmt_view}
use Rattle.go_core.specs.declared.node.CoreExpr.{CoreExpr}
use Rattle.go_define.proofs.ReturnLemmas.{bare_does}
use Rattle.go_define.proofs.simple.returned.bare.Goals as goal

pub returns-then-may_be_bare : goal.returns-then-may_be_bare
returns-then-may_be_bare c = record {
  does = λ ts.
      bare_does c.args.at (trees_of ts c.args.results.now) c.args.named true c.args.walk.now c.args.flaws.now.items c.args.out.now.items c.and_return.new.out.items (c.if-may_be_bare.ensures.value ts) refl
      (λ us. c.in_ok-and_return.ensures.core us ∙ ap (λ (x : List CoreExpr). map (stmt_view us) c.args.out.now.items ++ core.return_ (exprs_of (map (expr_view us) x)) ∷ []) c.new.ensures.items);
}
