use Rattle.std.proofs.Common.{◌≡◌, subst}
use Rattle.go_type.specs.Tree.{Ty, array}
use Rattle.go_type.specs.Levels.{tree_of}
use Rattle.go_type.specs.Table.{places}
use Rattle.go_core.specs.Control.{over_array}
use Rattle.go_values.specs.ValuesSeen.{value_of}
use Rattle.go_state.specs.RangesFound.{CursorFound}
use Rattle.go_state.proofs.ranges.begun.over_pointed.Goals as goal

pub returns-in-Some-Array : goal.returns-in-Some-Array
returns-in-Some-Array c =
    let ts = places c.args.c.now.table.now in
    let u = tree_of ts c.in-Some-Array.field-0-1 in
    let e : array c.in-Some-Array.count u ≡ tree_of ts c.args.t = rw c.in-Some-Array.field-0-is at c.in-Some-Array.ensures.tree in
    record { value = λ p g. subst (λ (t : Ty). CursorFound ts c.over_array.result (over_array p g t (value_of ts c.args.x.now) 0)) e (c.over_array.ensures.value ts p g u) }
