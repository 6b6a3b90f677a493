use Rattle.std.proofs.Common.{vec_len}
use Rattle.go_calls.proofs.given.gone.gone_all.Given as goal

abbrev pub decreases-loop-operand : goal.decreases-loop-operand
decreases-loop-operand l = vec_len l.operands
