use Rattle.go_sound_parts.proofs.MeasureLemmas.{known_put}
use Rattle.go_sound_parts.proofs.measures.put.Goals as goal

pub returns : goal.returns
returns c = record { is = λ ns ts h k. known_put ns ts c.args.measures.now c.args.i c.args.m h k }
