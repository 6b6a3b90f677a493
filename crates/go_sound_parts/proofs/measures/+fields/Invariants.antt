use Rattle.std.proofs.Common.{length}
use Rattle.go_sound_parts.proofs.measures.+fields.Given as goal

abbrev pub decreases-fields : goal.decreases-fields
decreases-fields l = length l.rows.now
