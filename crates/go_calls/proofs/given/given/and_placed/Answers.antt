use Rattle.std.proofs.Common.{ap, ◌∙◌}
use Rattle.go_type.specs.Table.{places}
use Rattle.go_calls.specs.CallView.{operands_view}
use Rattle.go_calls.proofs.OrderLemmas.{view_last}
use Rattle.go_calls.proofs.given.given.and_placed.Goals as goal

pub returns-in-Ok-clause-view : goal.returns-in-Ok-clause-view
returns-in-Ok-clause-view c =
    let ts = places c.args.table.now in
    ap (operands_view ts) c.in-Ok.ensures.items ∙ view_last ts c.args.operands.now.items c.args.placed
