use Rattle.std.proofs.Common.{◌∙◌, [], ◌∷◌, ◌++◌, map}
use Rattle.go_core.specs.CoreTree as core
use Rattle.go_core.specs.CoreView.{expr_view, exprs_of, stmt_view, target_view}
use Rattle.go_body.proofs.leaf.tagged.set_to.Goals as goal

pub returns-in_ok-stored-in-Ok-one_value : goal.returns-in_ok-stored-in-Ok-one_value
returns-in_ok-stored-in-Ok-one_value c = record {
  core = λ ts. c.in_ok-stored-in-Ok-one_value.ensures.core ts ∙ (λ j. map (stmt_view ts) c.args.out.now.items ++ core.store (map (target_view ts) (c.in-Ok.ensures.items j)) (exprs_of (map (expr_view ts) (c.in-Ok-one_value.ensures.items j))) ∷ []);
}
