use Rattle.go_sound_parts.proofs.MeasureLemmas.{none_measured}
use Rattle.go_sound_parts.proofs.measures.no_fields.Goals as goal

pub returns : goal.returns
returns c = record { is = none_measured }
