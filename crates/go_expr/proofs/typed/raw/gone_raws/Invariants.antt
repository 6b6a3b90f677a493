use Rattle.std.proofs.Common.{vec_len}
use Rattle.go_expr.proofs.typed.raw.gone_raws.Given as goal

abbrev pub decreases-loop-raw : goal.decreases-loop-raw
decreases-loop-raw l = vec_len l.items
