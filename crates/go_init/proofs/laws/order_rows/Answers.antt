use Rattle.go_init.proofs.OrderLemmas as ordered
use Rattle.go_init.proofs.laws.order_rows.Goals as goal

pub returns : goal.returns
returns c = record { rows = ordered.order_rows }
