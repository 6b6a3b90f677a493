use Rattle.std.proofs.Common.{◌∙◌, arith}
use Rattle.go_type.specs.Levels.{tree_of}
use Rattle.go_type.specs.Table.{places, names}
use Rattle.go_core.specs.Layout.{shape_with, name_shape}
use Rattle.go_values.proofs.LayoutSteps.{laid_size}
use Rattle.go_values.proofs.OffsetLemmas.{copy_there, copy_past}
use Rattle.go_values.proofs.layouts.layout.element_offset.Goals as goal

pub returns-then-index-count : goal.returns-then-index-count
returns-then-index-count c = record { value = copy_past c.args.count _ c.args.index (omega (arith, c.if-index-count.true)) }

pub returns : goal.returns
returns c =
    let w = c.args.table.now in
    let s = shape_with (name_shape (names w) c.args.left) (tree_of (places w) c.args.element) in
    let m = c.places_in.ensures.value ∙ laid_size (places w) c.empty-one.result c.lay.new.out s c.empty-one.ensures.value.0 c.in_ok-lay.ensures.value in
    record { value = copy_there c.args.count s c.args.index c.in_ok-offset.offset c.places_in.result (omega (arith, c.if-index-count.false)) m c.in_ok-offset.ensures.value }
