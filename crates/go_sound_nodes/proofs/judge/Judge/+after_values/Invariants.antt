use Rattle.std.proofs.Common.{length}
use Rattle.go_sound_nodes.proofs.judge.Judge.+after_values.Given as goal

abbrev pub decreases-after_values : goal.decreases-after_values
decreases-after_values l = length l.types.now
