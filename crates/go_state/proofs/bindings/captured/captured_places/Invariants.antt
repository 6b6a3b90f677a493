use Rattle.std.proofs.Common.{◌≡◌, ◌++◌, ◌-◌, drop, map}
use Rattle.go_core.specs.Calls.{captured_places}
use Rattle.go_core.specs.CoreView.{id_of}
use Rattle.go_state.specs.StateSeen.{places_of}
use Rattle.go_state.proofs.bindings.captured.captured_places.Given as goal

abbrev pub invariant-each : goal.invariant-each
invariant-each l =
    places_of l.at.items ≡ captured_places (drop (l.count - l.i) (map id_of l.captured)) (drop (l.count - l.i) l.bases) ++ places_of l.fn.at.items
