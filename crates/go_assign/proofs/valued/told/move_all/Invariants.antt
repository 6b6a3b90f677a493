use Rattle.std.proofs.Common.{◌≡◌, ◌++◌, [], List, map, vec_len}
use Rattle.go_type.specs.Tree.{Ty}
use Rattle.go_operands.specs.AnswerView.{flaw_view}
use Rattle.go_expr.specs.Raw.{raws_after}
use Rattle.go_assign.specs.Settled.{all_told}
use Rattle.go_assign.proofs.valued.told.move_all.Given as goal

-- what is told so far, with those that are left
abbrev pub invariant-loop-raw : goal.invariant-loop-raw
invariant-loop-raw l = (ts : List Ty) → map flaw_view l.flaws.items ++ all_told (raws_after ts l.items.items []) ≡ map flaw_view l.initial.flaws.items ++ all_told (raws_after ts l.initial.items.items [])

abbrev pub decreases-loop-raw : goal.decreases-loop-raw
decreases-loop-raw l = vec_len l.items
