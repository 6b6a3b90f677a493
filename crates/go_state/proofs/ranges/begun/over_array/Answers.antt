use Rattle.std.proofs.Common.{sym, subst, List}
use Rattle.go_type.specs.Tree.{array}
use Rattle.go_core.specs.Control.{over_array}
use Rattle.go_values.specs.ValuesSeen.{value_of}
use Rattle.go_values.specs.declared.values.scalar.Scalar.{Scalar}
use Rattle.go_values.proofs.Only.{only}
use Rattle.go_state.specs.RangesFound.{CursorFound}
use Rattle.go_state.proofs.ranges.begun.over_array.Goals as goal

pub returns-in-len1 : goal.returns-in-len1
returns-in-len1 c =
    let e = only c.args.x.now c.x-item.result c.in-len1.len_at_least c.in-len1.len_below c.x-item.is in
    record { value = λ ts p g t. subst (λ (xs : List Scalar). CursorFound ts c.array_at.result (over_array p g (array c.args.count t) (value_of ts xs) 0)) (sym e) (c.array_at.ensures.value ts p g t) }
