use Rattle.std.proofs.Common.{◌∙◌}
use Rattle.go_type.specs.Levels.{trees_of}
use Rattle.go_type.specs.Table.{places, names}
use Rattle.go_typing.specs.Call.{values_at}
use Rattle.go_calls.specs.CallView.{operands_view}
use Rattle.go_calls.proofs.given.values.values_at.Goals as goal

pub returns-in-Ok : goal.returns-in-Ok
returns-in-Ok c =
    let ts = places c.args.table.now in
    record { view = c.done.ensures.view ∙ c.in-Ok.ensures.value ∙ c.begun-passing.ensures.view (values_at (names c.args.table.now) (trees_of ts c.args.params.now) (operands_view ts c.args.operands.items)) }
