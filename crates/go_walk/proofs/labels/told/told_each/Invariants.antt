use Rattle.std.proofs.Common.{◌≡◌, ◌++◌, ℕ, List, [], drop, map}
use Rattle.go_operands.specs.AnswerView.{flaw_view}
use Rattle.go_walk.specs.SetsHas.{has_name}
use Rattle.go_typing.specs.Labels.{is_among, label_flaws}
use Rattle.go_walk.specs.Seen.{names_of, texts}
use Rattle.go_walk.proofs.labels.told.told_each.Given as goal

-- the labels that stood before, and what is told so far with what is left
abbrev pub invariant-loop-label : goal.invariant-loop-label
invariant-loop-label l =
    (seen : List (List ℕ)) × ((y : List ℕ) → has_name y l.seen ≡ is_among y seen)
    × (map flaw_view l.flaws.items ++ label_flaws seen (names_of (drop l.label-index l.labels)) (texts l.branches) ≡ map flaw_view l.initial.flaws.items ++ label_flaws [] (names_of l.labels) (texts l.branches))
