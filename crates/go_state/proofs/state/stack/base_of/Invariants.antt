use Rattle.std.proofs.Common.{◌≡◌, length}
use Rattle.go_core.specs.Goroutine.{base_in}
use Rattle.go_state.specs.StateSeen.{places_of}
use Rattle.go_state.proofs.state.stack.base_of.Given as goal

abbrev pub invariant-places : goal.invariant-places
invariant-places l = base_in l.var.0 (places_of l.places) ≡ base_in l.var.0 (places_of l.left)

abbrev pub decreases-places : goal.decreases-places
decreases-places l = length l.left
