use Rattle.std.proofs.Common.{vec_len}
use Rattle.go_operands.proofs.answers.gone.gone_exprs.Given as goal

abbrev pub decreases-loop-e : goal.decreases-loop-e
decreases-loop-e l = vec_len l.items
