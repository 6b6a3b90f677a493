use Rattle.std.proofs.Common.{◌≡◌, ◌++◌, drop, map}
use Rattle.go_operands.specs.AnswerView.{flaw_view}
use Rattle.go_expr.specs.Typed.{fault_view}
use Rattle.go_expr.proofs.expr.typed.faults_in.Given as goal

-- the faults so far and those that are left are all
abbrev pub invariant-loop-flaw : goal.invariant-loop-flaw
invariant-loop-flaw l = map fault_view l.items.items ++ map flaw_view (drop l.flaw-index l.flaws) ≡ map flaw_view l.flaws
