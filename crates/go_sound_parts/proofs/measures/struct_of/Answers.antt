use Rattle.go_sound_parts.proofs.MeasureLemmas.{struct_measured}
use Rattle.go_sound_parts.proofs.measures.struct_of.Goals as goal

pub returns : goal.returns
returns c = record { is = λ ns fs h. struct_measured ns fs c.args.m c.at_least_one.result c.at_least_one.ensures.is h }
