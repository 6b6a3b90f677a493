use Rattle.std.proofs.Common.{length}
use Rattle.go_is_sound.proofs.variables.+has_package.Given as goal

abbrev pub decreases-has_package : goal.decreases-has_package
decreases-has_package l = length l.rows.now
