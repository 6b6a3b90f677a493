use Rattle.std.proofs.Common.{◌≡◌, ◌++◌, drop}
use Rattle.go_walk.specs.SetsHas.{number_of}
use Rattle.go_walk.specs.Texts.{texts}
use Rattle.go_items.specs.Stated.{targets_by}
use Rattle.go_items.proofs.needs.graph.targets.Given as goal

-- those so far, with those that are left
abbrev pub invariant-loop-x : goal.invariant-loop-x
invariant-loop-x l = l.all.items ++ targets_by (λ x. number_of x l.numbers) (texts (drop l.x-index l.names)) ≡ targets_by (λ x. number_of x l.numbers) (texts l.names)
