use Rattle.go_type.specs.Table.{places, names}
use Rattle.go_sound_parts.specs.Measures.{AreKnown}
use Rattle.go_sound_parts.proofs.measures.turn.Given as goal

abbrev pub invariant-types : goal.invariant-types
invariant-types l = AreKnown (names l.table) (places l.table) l.fn.measures → AreKnown (names l.table) (places l.table) l.measures
