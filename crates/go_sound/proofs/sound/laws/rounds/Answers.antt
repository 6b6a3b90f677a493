use Rattle.go_sound.proofs.RoundsEnd.{is_fixed, is_reached, stays_so, is_least_fixed}
use Rattle.go_sound.proofs.sound.laws.rounds.Goals as goal

pub returns : goal.returns
returns c = record { fixed = is_fixed; reached = is_reached; stays = stays_so; least = is_least_fixed }
