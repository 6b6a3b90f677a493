use Rattle.std.proofs.Common.{◌≡◌, ◌++◌, drop, map, List, ℕ}
use Rattle.std.specs.Prelude.{option_map}
use Rattle.go_core.specs.Calls.{bases_of}
use Rattle.go_core.specs.CoreView.{id_of}
use Rattle.go_state.specs.StateSeen.{places_of}
use Rattle.go_state.proofs.bindings.captured.bases_of.Given as goal

abbrev pub invariant-each : goal.invariant-each
invariant-each l =
    option_map (λ (ys : List ℕ). l.bases.items ++ ys) (bases_of (drop l.i (map id_of l.captured)) (places_of l.at)) ≡ bases_of (map id_of l.captured) (places_of l.at)
