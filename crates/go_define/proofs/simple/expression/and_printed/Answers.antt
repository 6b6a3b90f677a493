use Rattle.std.proofs.Common.{◌∙◌, refl, ap, subst, List}
use Rattle.go_type.specs.Table.{size}
use Rattle.go_core.specs.declared.node.CoreExpr.{CoreExpr}
use Rattle.go_operands.specs.EnvView.{table_of}
use Rattle.go_walk.specs.Steady.{AreSteady}
use Rattle.go_define.proofs.ToldLemmas.{prints}
use Rattle.go_define.proofs.simple.expression.and_printed.Goals as goal

pub returns-in_ok-and_stmt-in-Ok : goal.returns-in_ok-and_stmt-in-Ok
returns-in_ok-and_stmt-in-Ok c = record {
  core = prints (table_of c.args.env.now) c.args.out.now.items c.and_stmt.new.items.items c.in-Ok.stmt c.args.operands c.args.ends_line c.len.result c.in_ok-and_stmt-in-Ok.ensures.items c.in-Ok.ensures.value (c.len.ensures.value ∙ ap size c.table.ensures.value) (subst (λ (es : List CoreExpr). AreSteady c.len.result es) c.as_slice.ensures.value (c.if-not-are_steady.ensures.steady refl));
}
