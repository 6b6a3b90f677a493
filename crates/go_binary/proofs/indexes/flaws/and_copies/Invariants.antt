use Rattle.std.proofs.Common.{◌≡◌, ◌++◌, length}
use Rattle.std.specs.Prelude.{map}
use Rattle.go_operands.specs.AnswerView.{flaw_view}
use Rattle.go_binary.proofs.indexes.flaws.and_copies.Given as goal

-- the faults so far, and what is left
abbrev pub invariant-copies : goal.invariant-copies
invariant-copies l = map flaw_view l.flaws.items ++ map flaw_view l.rest ≡ map flaw_view l.fn.flaws.items ++ map flaw_view l.more

abbrev pub decreases-copies : goal.decreases-copies
decreases-copies l = length l.rest
