use Rattle.std.proofs.Common.{◌≡◌, drop, map}
use Rattle.go_operands.specs.AnswerView.{flaw_view}
use Rattle.go_typing.specs.Statements.{has_unbuilt}
use Rattle.go_body.proofs.leaf.spare.has_unbuilt.Given as goal

-- one of those that are left is, where one of all is
abbrev pub invariant-loop-i : goal.invariant-loop-i
invariant-loop-i l = has_unbuilt (map flaw_view (drop l.i l.flaws)) ≡ has_unbuilt (map flaw_view (drop l.before l.flaws))
