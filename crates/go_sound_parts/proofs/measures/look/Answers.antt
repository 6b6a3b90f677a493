use Rattle.go_type.specs.Table.{places, names}
use Rattle.go_sound_parts.proofs.measures.look.Goals as goal

pub returns-in-Some : goal.returns-in-Some
returns-in-Some c = record { is = λ h. c.put.ensures.is (names c.args.table.now) (places c.args.table.now) h (c.in-Some.ensures.is h) }
