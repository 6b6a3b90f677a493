use Rattle.go_type.specs.Levels.{tree_of}
use Rattle.go_type.specs.Table.{places, names}
use Rattle.go_core.specs.Layout.{shape_of}
use Rattle.go_values.proofs.LayoutSteps.{laid}
use Rattle.go_values.proofs.layouts.layout.layout_of.Goals as goal

pub returns : goal.returns
returns c =
    let w = c.args.table.now in
    let e = c.empty-out.ensures.value in
    record { value = laid (places w) c.empty-out.result c.lay_any.new.out (shape_of (names w) (tree_of (places w) c.args.t)) e.0 e.1 e.2 c.in_ok-lay_any.ensures.value }
