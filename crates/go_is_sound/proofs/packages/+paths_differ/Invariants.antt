use Rattle.std.proofs.Common.{length}
use Rattle.go_is_sound.proofs.packages.+paths_differ.Given as goal

abbrev pub decreases-paths_differ : goal.decreases-paths_differ
decreases-paths_differ l = length l.rows.now
