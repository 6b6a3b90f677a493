use Rattle.std.proofs.Common.{vec_len}
use Rattle.go_calls.proofs.given.gone.gone_parts.Given as goal

abbrev pub decreases-loop-part : goal.decreases-loop-part
decreases-loop-part l = vec_len l.parts
