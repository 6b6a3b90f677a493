use Rattle.std.proofs.Common.{◌≡◌, ◌||◌, ℕ, List, drop}
use Rattle.go_walk.specs.SetsHas.{has_name}
use Rattle.go_typing.specs.Labels.{is_among}
use Rattle.go_walk.specs.Seen.{texts}
use Rattle.go_walk.proofs.labels.told.set_of.Given as goal

-- what is there, or left, is what the list has
abbrev pub invariant-loop-x : goal.invariant-loop-x
invariant-loop-x l = (y : List ℕ) → (has_name y l.set || is_among y (texts (drop l.x-index l.xs))) ≡ is_among y (texts l.xs)
