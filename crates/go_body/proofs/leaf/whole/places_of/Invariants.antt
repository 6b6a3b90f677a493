use Rattle.std.proofs.Common.{◌≡◌, ◌++◌, drop, map}
use Rattle.go_operands.specs.AnswerView.{flaw_view}
use Rattle.go_typing.specs.Statements.{flaw_places}
use Rattle.go_body.proofs.leaf.whole.places_of.Given as goal

-- those so far and those that are left are all
abbrev pub invariant-loop-one : goal.invariant-loop-one
invariant-loop-one l = l.places.items ++ flaw_places (map flaw_view (drop l.one-index l.flaws)) ≡ flaw_places (map flaw_view l.flaws)
