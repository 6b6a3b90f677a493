use Rattle.go_type.specs.Table.{places, names}
use Rattle.go_sound_parts.specs.Measures.{AreKnown}
use Rattle.go_sound_parts.proofs.measures.all_turns.Given as goal

abbrev pub invariant-turns : goal.invariant-turns
invariant-turns l = AreKnown (names l.table) (places l.table) l.fn.measures → AreKnown (names l.table) (places l.table) l.measures
