use Rattle.std.proofs.Common.{◌∙◌, ap, List, [], ◌∷◌, ◌++◌}
use Rattle.go_core.specs.CoreView.{exprs_view, stmt_view}
use Rattle.go_core.specs.declared.node.CoreExpr.{CoreExpr}
use Rattle.go_items.proofs.FunctionLemmas.{one_value}
use Rattle.go_items.proofs.hidden.functions.alone.Goals as goal

pub returns-in_ok-back-in-Ok : goal.returns-in_ok-back-in-Ok
returns-in_ok-back-in-Ok c = record {
  value = λ ts.
      one_value ts c.and_value.new.items.items c.args.whole (exprs_view ts c.values.result) (stmt_view ts c.in_ok-back-in-Ok.back) (c.in-Ok.ensures.items ∙ ap (λ (es : List CoreExpr). es ++ c.args.whole ∷ []) c.new-list.ensures.items)
      (c.values.ensures.value ts) (c.in_ok-back-in-Ok.ensures.value ts);
}
