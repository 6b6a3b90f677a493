use Rattle.std.proofs.Common.{map}
use Rattle.go_core.specs.CoreTree as core
use Rattle.go_core.specs.CoreView.{exprs_view, target_view}
use Rattle.go_core.specs.declared.statement.CoreStmtForm.TheVariants as statement
use Rattle.go_walk.proofs.Views.{stmt_made, store_view}
use Rattle.go_walk.proofs.stmt_nodes.store.store.Goals as goal

pub returns : goal.returns
returns c = record { value = stmt_made c.statement.result (statement.Store (record { items = c.args.targets }) c.args.values) (λ ts. core.store (map (target_view ts) c.args.targets.items) (exprs_view ts c.args.values)) (λ ts. store_view ts (record { items = c.args.targets }) c.args.values) c.statement.ensures.value }
