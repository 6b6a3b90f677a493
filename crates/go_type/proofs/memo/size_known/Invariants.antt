use Rattle.std.proofs.Common.{◌≡◌, length}
use Rattle.go_type.specs.Memo.{size_known}
use Rattle.go_type.proofs.memo.size_known.Given as goal

abbrev pub invariant-memo : goal.invariant-memo
invariant-memo l = size_known l.id l.left l.rest ≡ size_known l.id l.left l.memo

abbrev pub decreases-memo : goal.decreases-memo
decreases-memo l = length l.rest
