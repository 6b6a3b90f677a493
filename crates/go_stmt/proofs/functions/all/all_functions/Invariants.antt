use Rattle.std.proofs.Common.{vec_len}
use Rattle.go_walk.specs.WalkView.{walk_outside}
use Rattle.go_stmt.proofs.LoopLemmas.{Left}
use Rattle.go_stmt.proofs.functions.all.all_functions.Given as goal

abbrev pub invariant-loop-head : goal.invariant-loop-head
invariant-loop-head l = Left (walk_outside l.initial.walk.env) l.initial.walk l.initial.heads.items l.heads.items l.walk l.initial.flaws.items l.flaws.items l.done.items

abbrev pub decreases-loop-head : goal.decreases-loop-head
decreases-loop-head l = vec_len l.heads
