use Rattle.std.proofs.Common.{vec_len}
use Rattle.go_walk.proofs.stmt_gone.gone.gone_tests.Given as goal

abbrev pub decreases-loop-test : goal.decreases-loop-test
decreases-loop-test l = vec_len l.items
