use Rattle.std.proofs.Common.{◌∙◌, sym}
use Rattle.go_type.specs.Table.{places}
use Rattle.go_sound_parts.proofs.FieldLemmas.{nth_of}
use Rattle.go_sound_parts.proofs.fields.nth_field.Goals as goal

pub returns-in-Some : goal.returns-in-Some
returns-in-Some c = record { is = sym (nth_of (places c.args.table.now) c.args.fields.now c.args.number) ∙ c.in-Some.ensures.is }
