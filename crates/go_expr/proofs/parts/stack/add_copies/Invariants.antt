use Rattle.std.proofs.Common.{◌≡◌, ◌++◌, drop, map}
use Rattle.go_operands.specs.AnswerView.{flaw_view}
use Rattle.go_expr.proofs.parts.stack.add_copies.Given as goal

-- the faults so far and those that are left are all
abbrev pub invariant-loop-flaw : goal.invariant-loop-flaw
invariant-loop-flaw l = map flaw_view l.flaws.items ++ map flaw_view (drop l.flaw-index l.flaw-items) ≡ map flaw_view l.initial.flaws.items ++ map flaw_view l.flaw-items
