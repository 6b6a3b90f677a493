use Rattle.go_core.specs.CoreTree as core
use Rattle.go_core.specs.declared.statement.CoreStmtForm.TheVariants as statement
use Rattle.go_walk.proofs.Views.{stmt_made}
use Rattle.go_body.proofs.StandLemmas.{nothing_view}
use Rattle.go_body.proofs.leaf.stand.nothing.Goals as goal

pub returns : goal.returns
returns c = record { value = stmt_made c.statement.result (statement.Seq c.body.result) (λ ts. core.sequence core.no_stmts) (λ ts. nothing_view ts c.body.result c.new.result.items c.new.ensures.items (c.body.ensures.value ts)) c.statement.ensures.value }
