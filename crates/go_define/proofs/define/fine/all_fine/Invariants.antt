use Rattle.std.proofs.Common.{◌≡◌, [], List, drop}
use Rattle.go_type.specs.Tree.{Ty}
use Rattle.go_expr.specs.Raw.{raws_after}
use Rattle.go_define.specs.DefineTold.{all_fine}
use Rattle.go_define.proofs.define.fine.all_fine.Given as goal

-- where those that are left are, all are
abbrev pub invariant-loop-raw : goal.invariant-loop-raw
invariant-loop-raw l = (ts : List Ty) → all_fine (raws_after ts (drop l.raw-index l.raw-items) []) ≡ all_fine (raws_after ts l.raw-items [])
