use Rattle.go_expr.proofs.FaultLemmas.{lists_faults}
use Rattle.go_expr.proofs.expr.laws.lists_faults.Goals as goal

pub returns : goal.returns
returns _ = record { exact = lists_faults }
