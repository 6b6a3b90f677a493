use Rattle.std.proofs.Common.{length}
use Rattle.go_is_sound.proofs.variables.+numbers_differ.Given as goal

abbrev pub decreases-numbers_differ : goal.decreases-numbers_differ
decreases-numbers_differ l = length l.vars.now
