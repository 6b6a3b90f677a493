use Rattle.std.proofs.Common.{length}
use Rattle.go_sound_parts.proofs.given.+after_all.Given as goal

abbrev pub decreases-after_all : goal.decreases-after_all
decreases-after_all l = length l.types.now
