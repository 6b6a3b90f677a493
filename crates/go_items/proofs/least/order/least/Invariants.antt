use Rattle.std.proofs.Common.{◌≡◌, drop, map}
use Rattle.go_operands.specs.AnswerView.{flaw_view}
use Rattle.go_typing.specs.Checked.{least}
use Rattle.go_items.specs.Shown.{shown, least_after}
use Rattle.go_items.proofs.least.order.least.Given as goal

abbrev pub invariant-loop-one : goal.invariant-loop-one
invariant-loop-one l = least_after (shown l.found) (map flaw_view (drop l.one-index l.flaws)) ≡ least (map flaw_view l.flaws)
