use Rattle.std.specs.Prelude.{option_map}
use Rattle.go_core.specs.CoreTree as core
use Rattle.go_core.specs.CoreView.{expr_view, bound_of, stmts_view}
use Rattle.go_core.specs.declared.statement.CoreStmtForm.TheVariants as statement
use Rattle.go_walk.proofs.Views.{stmt_made, loop_view}
use Rattle.go_walk.proofs.stmt_nodes.branch.turn.Goals as goal

pub returns : goal.returns
returns c = record { value = stmt_made c.statement.result (statement.Loop c.args.label c.args.condition c.args.body c.args.post) (λ ts. core.loop c.args.label.0 (bound_of (option_map (expr_view ts) c.args.condition)) (stmts_view ts c.args.body) (stmts_view ts c.args.post)) (λ ts. loop_view ts c.args.label c.args.condition c.args.body c.args.post) c.statement.ensures.value }
