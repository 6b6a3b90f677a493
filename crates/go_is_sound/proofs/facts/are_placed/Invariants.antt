use Rattle.std.proofs.Common.{◌≡◌, ◌<◌, ℕ}
use Rattle.std.specs.Prelude.{Some, slice_get}
use Rattle.go_core.specs.declared.node.Var.{Var}
use Rattle.go_is_sound.proofs.facts.are_placed.Given as goal

abbrev pub invariant-vars : goal.invariant-vars
invariant-vars l = (k : ℕ) → k < l.i → (v : Var) → slice_get l.vars k ≡ Some v → slice_get l.places v.id.0 ≡ Some k
