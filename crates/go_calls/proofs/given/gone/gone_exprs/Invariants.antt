use Rattle.std.proofs.Common.{vec_len}
use Rattle.go_calls.proofs.given.gone.gone_exprs.Given as goal

abbrev pub decreases-loop-value : goal.decreases-loop-value
decreases-loop-value l = vec_len l.values
