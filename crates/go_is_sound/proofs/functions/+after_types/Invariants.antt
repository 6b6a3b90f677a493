use Rattle.std.proofs.Common.{length}
use Rattle.go_is_sound.proofs.functions.+after_types.Given as goal

abbrev pub decreases-after_types : goal.decreases-after_types
decreases-after_types l = length l.types.now
