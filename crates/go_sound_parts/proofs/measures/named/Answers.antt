use Rattle.std.proofs.Common.{rules}
use Rattle.go_sound_parts.proofs.MeasureLemmas.{named_measured}
use Rattle.go_sound_parts.proofs.measures.named.Goals as goal

pub returns-in-Some : goal.returns-in-Some
returns-in-Some c = record { is = λ ns id t e h. named_measured ns id t c.args.m c.in-Some.names (search rules) e h }
