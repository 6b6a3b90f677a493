use Rattle.std.proofs.Common.{rules}
use Rattle.go_sound_parts.proofs.MeasureLemmas.{array_measured}
use Rattle.go_sound_parts.proofs.measures.array.Goals as goal

pub returns-in-Some : goal.returns-in-Some
returns-in-Some c = record { is = λ ns t h. array_measured ns t c.args.m c.args.count c.at_least_one.result (search rules) h }
