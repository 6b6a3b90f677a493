use Rattle.std.proofs.Common.{◌≡◌, ◌+◌, length}
use Rattle.go_type.specs.Tried.{place_of}
use Rattle.go_type.proofs.place.place_of.Given as goal

abbrev pub invariant-specs : goal.invariant-specs
invariant-specs l = record {
  rest : l.place + place_of l.name l.«package» l.rest ≡ place_of l.name l.«package» l.specs;
  counted : l.place + length l.rest ≡ length l.specs;
}

abbrev pub decreases-specs : goal.decreases-specs
decreases-specs l = length l.rest
