use Rattle.go_core.specs.CoreTree as core
use Rattle.go_core.specs.CoreView.{tests_of}
use Rattle.go_core.specs.declared.statement.CoreStmtForm.TheVariants as statement
use Rattle.go_walk.specs.ClauseView.{clauses_view}
use Rattle.go_walk.proofs.Views.{stmt_made, switch_view}
use Rattle.go_walk.proofs.stmt_nodes.branch.switch_on.Goals as goal

pub returns : goal.returns
returns c = record { value = stmt_made c.statement.result (statement.SwitchOn c.args.label (record { items = c.args.tests }) c.args.clauses c.args.default) (λ ts. core.switch_on c.args.label.0 (tests_of ts c.args.tests.items) (clauses_view ts c.args.clauses) c.args.default) (λ ts. switch_view ts c.args.label (record { items = c.args.tests }) c.args.clauses c.args.default) c.statement.ensures.value }
