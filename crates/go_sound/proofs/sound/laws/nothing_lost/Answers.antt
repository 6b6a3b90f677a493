use Rattle.go_sound.proofs.NothingLost.{nothing_is_lost}
use Rattle.go_sound.proofs.sound.laws.nothing_lost.Goals as goal

pub returns : goal.returns
returns c = record { nodes = nothing_is_lost }
