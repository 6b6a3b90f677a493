use Rattle.go_core.specs.CoreTree as core
use Rattle.go_core.specs.CoreView.{expr_view}
use Rattle.go_core.specs.declared.statement.CoreStmtForm.TheVariants as statement
use Rattle.go_walk.proofs.Views.{stmt_made, perform_view}
use Rattle.go_walk.proofs.stmt_nodes.simple.perform.Goals as goal

pub returns : goal.returns
returns c = record { value = stmt_made c.statement.result (statement.Perform c.args.operand c.args.values) (λ ts. core.perform (expr_view ts c.args.operand) c.args.values) (λ ts. perform_view ts c.args.operand c.args.values) c.statement.ensures.value }
