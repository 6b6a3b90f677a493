use Rattle.std.proofs.Common.{vec_len}
use Rattle.go_items.proofs.hidden.lists.gone_funcs.Given as goal

abbrev pub decreases-loop-func : goal.decreases-loop-func
decreases-loop-func l = vec_len l.items
