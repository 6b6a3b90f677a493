use Rattle.std.proofs.Common.{drop, map}
use Rattle.go_syntax.specs.View.{expr_view, exprs_of}
use Rattle.go_expr.specs.Ready.{AllFit}
use Rattle.go_expr.proofs.expr.numbers.+fits.Given as goal

-- where those that are left fit, all do
abbrev pub invariant-all_fit-loop-x : goal.invariant-all_fit-loop-x
invariant-all_fit-loop-x l = AllFit (exprs_of (map expr_view (drop l.x-index l.xs))) → AllFit (exprs_of (map expr_view l.xs))
