use Rattle.go_core.specs.CoreTree as core
use Rattle.go_core.specs.CoreView.{exprs_view}
use Rattle.go_core.specs.declared.statement.CoreStmtForm.TheVariants as statement
use Rattle.go_walk.proofs.Views.{stmt_made, return_view}
use Rattle.go_walk.proofs.stmt_nodes.simple.give_back.Goals as goal

pub returns : goal.returns
returns c = record { value = stmt_made c.statement.result (statement.Return c.args.values) (λ ts. core.return_ (exprs_view ts c.args.values)) (λ ts. return_view ts c.args.values) c.statement.ensures.value }
