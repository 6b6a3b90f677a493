use Rattle.std.proofs.Common.{◌≡◌, [], List, drop}
use Rattle.go_type.specs.Tree.{Ty}
use Rattle.go_expr.specs.Raw.{raws_after}
use Rattle.go_assign.specs.Settled.{all_known}
use Rattle.go_assign.proofs.valued.told.all_known.Given as goal

-- where those that are left are, all are
abbrev pub invariant-loop-raw : goal.invariant-loop-raw
invariant-loop-raw l = (ts : List Ty) → all_known (raws_after ts (drop l.raw-index l.raw-items) []) ≡ all_known (raws_after ts l.raw-items [])
