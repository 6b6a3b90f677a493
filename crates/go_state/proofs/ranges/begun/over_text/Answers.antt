use Rattle.std.proofs.Common.{sym, subst, List}
use Rattle.go_type.specs.Tree.{str}
use Rattle.go_core.specs.Control.{cursor_of}
use Rattle.go_values.specs.ValuesSeen.{value_of}
use Rattle.go_values.specs.declared.values.scalar.Scalar.{Scalar}
use Rattle.go_values.proofs.Only.{only}
use Rattle.go_state.specs.RangesFound.{CursorFound}
use Rattle.go_state.proofs.ranges.begun.over_text.Goals as goal

pub returns-in-len1 : goal.returns-in-len1
returns-in-len1 c =
    let e = only c.args.x.now c.x-item.result c.in-len1.len_at_least c.in-len1.len_below c.x-item.is in
    record { value = λ ts p g m. subst (λ (xs : List Scalar). CursorFound ts c.text_at.result (cursor_of p g str (value_of ts xs) m)) (sym e) (c.text_at.ensures.value ts p g m) }
