use Rattle.std.proofs.Common.{◌≡◌, length}
use Rattle.go_type.specs.Memo.{is_known}
use Rattle.go_type.proofs.memo.is_known.Given as goal

abbrev pub invariant-memo : goal.invariant-memo
invariant-memo l = is_known l.id l.left l.rest ≡ is_known l.id l.left l.memo

abbrev pub decreases-memo : goal.decreases-memo
decreases-memo l = length l.rest
