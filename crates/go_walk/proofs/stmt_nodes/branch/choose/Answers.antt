use Rattle.go_core.specs.CoreTree as core
use Rattle.go_core.specs.CoreView.{expr_view, stmts_view}
use Rattle.go_core.specs.declared.statement.CoreStmtForm.TheVariants as statement
use Rattle.go_walk.proofs.Views.{stmt_made, if_view}
use Rattle.go_walk.proofs.stmt_nodes.branch.choose.Goals as goal

pub returns : goal.returns
returns c = record { value = stmt_made c.statement.result (statement.If c.args.condition c.args.when_true c.args.when_false) (λ ts. core.if_ (expr_view ts c.args.condition) (stmts_view ts c.args.when_true) (stmts_view ts c.args.when_false)) (λ ts. if_view ts c.args.condition c.args.when_true c.args.when_false) c.statement.ensures.value }
