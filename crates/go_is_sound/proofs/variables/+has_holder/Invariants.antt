use Rattle.std.proofs.Common.{length}
use Rattle.go_is_sound.proofs.variables.+has_holder.Given as goal

abbrev pub decreases-has_holder : goal.decreases-has_holder
decreases-has_holder l = length l.vars.now
