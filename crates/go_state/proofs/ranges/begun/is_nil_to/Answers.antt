use Rattle.std.proofs.Common.{◌≡◌, sym, subst, List}
use Rattle.go_type.specs.Tree.{pointer}
use Rattle.go_type.specs.Levels.{tree_of}
use Rattle.go_type.specs.Table.{places}
use Rattle.go_core.specs.Control.{is_nil_array}
use Rattle.go_values.specs.ValuesSeen.{value_of}
use Rattle.go_values.specs.declared.values.scalar.Scalar.{Scalar}
use Rattle.go_values.proofs.Only.{only}
use Rattle.go_state.proofs.ranges.begun.is_nil_to.Goals as goal

pub returns-in-len1 : goal.returns-in-len1
returns-in-len1 c =
    let e = only c.args.x.now c.x-item.result c.in-len1.len_at_least c.in-len1.len_below c.x-item.is in
    let ts = places c.args.c.now.table.now in
    record { value = λ p g h. subst (λ (xs : List Scalar). c.is_nil_at.result ≡ is_nil_array p g (pointer (tree_of ts c.args.to)) (value_of ts xs)) (sym e) (c.is_nil_at.ensures.value p g h) }
