use Rattle.go_type.specs.Levels.{tree_of}
use Rattle.go_type.specs.Table.{places, names}
use Rattle.go_core.specs.Layout.{shape_of}
use Rattle.go_values.proofs.operators.places.weight_of.Goals as goal

pub returns : goal.returns
returns c =
    let w = c.args.c.now.table.now in
    record { value = c.in_ok-units.ensures.value (places w) (shape_of (names w) (tree_of (places w) c.args.t)) c.in_ok-layout.ensures.value }
