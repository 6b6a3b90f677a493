use Rattle.std.proofs.Common.{◌≡◌, [], List, drop}
use Rattle.go_type.specs.Tree.{Ty}
use Rattle.go_assign.specs.LeftView.{lefts_after}
use Rattle.go_assign.specs.Assigning.{all_left}
use Rattle.go_assign.proofs.assign.left.all_left.Given as goal

-- where those that are left can be, all can
abbrev pub invariant-loop-left : goal.invariant-loop-left
invariant-loop-left l = (ts : List Ty) → all_left (lefts_after ts (drop l.left-index l.left-items) []) ≡ all_left (lefts_after ts l.left-items [])
