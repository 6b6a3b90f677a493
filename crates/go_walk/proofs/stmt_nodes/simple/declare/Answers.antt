use Rattle.go_core.specs.CoreTree as core
use Rattle.go_core.specs.CoreView.{var_of}
use Rattle.go_core.specs.declared.statement.CoreStmtForm.TheVariants as statement
use Rattle.go_walk.proofs.Views.{stmt_made, declare_view}
use Rattle.go_walk.proofs.stmt_nodes.simple.declare.Goals as goal

pub returns : goal.returns
returns c = record { value = stmt_made c.statement.result (statement.Declare c.args.var) (λ ts. core.declare (var_of ts c.args.var)) (λ ts. declare_view ts c.args.var) c.statement.ensures.value }
