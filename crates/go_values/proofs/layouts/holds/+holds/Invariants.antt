use Rattle.std.proofs.Common.{◌≡◌, ◌+◌, ◌*◌, drop}
use Rattle.go_type.specs.Levels.{fields_of}
use Rattle.go_type.specs.Table.{places, names, size}
use Rattle.go_core.specs.Layout.{all_with, name_holds}
use Rattle.go_values.specs.Asked.{asked_of}
use Rattle.go_values.proofs.layouts.holds.+holds.Given as goal

abbrev pub decreases-holds : goal.decreases-holds
decreases-holds l = 2 * (l.left * size l.table.now + l.t.0) + 1

abbrev pub decreases-holds_all : goal.decreases-holds_all
decreases-holds_all l = 2 * (l.left * size l.table.now + l.owner.0)

abbrev pub invariant-holds_all-fields : goal.invariant-holds_all-fields
invariant-holds_all-fields l =
    all_with (asked_of l.asked) (name_holds (asked_of l.asked) (names l.table) l.left) (fields_of (places l.table) (drop l.i l.fields))
    ≡ all_with (asked_of l.asked) (name_holds (asked_of l.asked) (names l.table) l.left) (fields_of (places l.table) l.fields)
