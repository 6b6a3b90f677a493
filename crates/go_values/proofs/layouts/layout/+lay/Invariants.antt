use Rattle.std.proofs.Common.{◌+◌, ◌-◌, ◌*◌, drop}
use Rattle.go_type.specs.Levels.{tree_of, fields_of}
use Rattle.go_type.specs.Table.{places, names, size}
use Rattle.go_core.specs.Layout.{copies, shape_with, parts_with, name_shape}
use Rattle.go_values.proofs.LayoutLemmas.{Onward}
use Rattle.go_values.proofs.layouts.layout.+lay.Given as goal

abbrev pub decreases-lay : goal.decreases-lay
decreases-lay l = 3 * (l.left * size l.table.now + l.t.0) + 2

abbrev pub decreases-lay_named : goal.decreases-lay_named
decreases-lay_named l = 3 * (l.left * size l.table.now)

abbrev pub decreases-lay_array : goal.decreases-lay_array
decreases-lay_array l = 3 * (l.left * size l.table.now + l.owner.0) + 1

abbrev pub decreases-lay_struct : goal.decreases-lay_struct
decreases-lay_struct l = 3 * (l.left * size l.table.now + l.owner.0) + 1

abbrev pub decreases-lay_copies : goal.decreases-lay_copies
decreases-lay_copies l = 3 * (l.left * size l.table.now + l.owner.0)

abbrev pub decreases-lay_fields : goal.decreases-lay_fields
decreases-lay_fields l = 3 * (l.left * size l.table.now + l.owner.0)

abbrev pub invariant-lay_copies-copies : goal.invariant-lay_copies-copies
invariant-lay_copies-copies l =
    let s = shape_with (name_shape (names l.table) l.left) (tree_of (places l.table) l.element) in
    Onward (places l.table) l.fn.out l.out l.looked (copies (l.count - l._i) s) (copies l.count s)

abbrev pub invariant-lay_fields-fields : goal.invariant-lay_fields-fields
invariant-lay_fields-fields l =
    Onward (places l.table) l.fn.out l.out l.looked
    (parts_with (name_shape (names l.table) l.left) (fields_of (places l.table) (drop l.i l.fields)))
    (parts_with (name_shape (names l.table) l.left) (fields_of (places l.table) l.fields))
