use Rattle.std.proofs.Common.{length}
use Rattle.go_is_sound.proofs.imports.+rank_of.Given as goal

abbrev pub decreases-rank_of : goal.decreases-rank_of
decreases-rank_of l = length l.rows.now
