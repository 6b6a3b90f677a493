use Rattle.std.proofs.Common.{◌≡◌, [], List, drop}
use Rattle.go_type.specs.Tree.{Ty}
use Rattle.go_define.specs.FreshView.{fresh_after, any_new_spot}
use Rattle.go_define.proofs.define.fresh.any_new.Given as goal

-- where one of those that are left is new, one is
abbrev pub invariant-loop-fresh : goal.invariant-loop-fresh
invariant-loop-fresh l = (ts : List Ty) → any_new_spot (fresh_after ts (drop l.fresh-index l.fresh-items) []) ≡ any_new_spot (fresh_after ts l.fresh-items [])
