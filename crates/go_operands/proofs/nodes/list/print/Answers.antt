use Rattle.go_core.specs.CoreTree as core
use Rattle.go_core.specs.CoreView.{exprs_view}
use Rattle.go_core.specs.declared.statement.CoreStmtForm.TheVariants as statement
use Rattle.go_operands.proofs.Views.{stmt_made, print_view}
use Rattle.go_operands.proofs.nodes.list.print.Goals as goal

pub returns : goal.returns
returns c = record { value = stmt_made c.statement.result (statement.Print c.args.operands c.args.ends_line) (λ ts. core.print (exprs_view ts c.args.operands) c.args.ends_line) (λ ts. print_view ts c.args.operands c.args.ends_line) c.statement.ensures.value }
