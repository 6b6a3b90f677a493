use Rattle.std.proofs.Common.{vec_len}
use Rattle.go_walk.proofs.stmt_gone.gone.gone_values.Given as goal

abbrev pub decreases-loop-core : goal.decreases-loop-core
decreases-loop-core l = vec_len l.items
