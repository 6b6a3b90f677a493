use Rattle.std.proofs.Common.{◌≡◌, [], List, drop}
use Rattle.go_type.specs.Tree.{Ty}
use Rattle.go_define.specs.FreshView.{fresh_after, spots_typed}
use Rattle.go_define.proofs.define.fresh.names_typed.Given as goal

-- where those that are left are typed, all are
abbrev pub invariant-loop-fresh : goal.invariant-loop-fresh
invariant-loop-fresh l = (ts : List Ty) → spots_typed (fresh_after ts (drop l.fresh-index l.fresh-items) []) ≡ spots_typed (fresh_after ts l.fresh-items [])
