use Rattle.std.proofs.Common.{vec_len}
use Rattle.go_graph.proofs.component.close.Given as goal

abbrev pub decreases-loop-other : goal.decreases-loop-other
decreases-loop-other l = vec_len l.open
