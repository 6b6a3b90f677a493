use Rattle.go_core.specs.CoreTree as core
use Rattle.go_core.specs.CoreView.{branch_of}
use Rattle.go_core.specs.declared.statement.CoreStmtForm.TheVariants as statement
use Rattle.go_walk.proofs.Views.{stmt_made, branch_view}
use Rattle.go_walk.proofs.stmt_nodes.simple.branch.Goals as goal

pub returns : goal.returns
returns c = record { value = stmt_made c.statement.result (statement.Branch c.args.kind c.args.label) (λ ts. core.branch (branch_of c.args.kind) c.args.label.0) (λ ts. branch_view ts c.args.kind c.args.label) c.statement.ensures.value }
