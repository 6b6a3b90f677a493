use Rattle.std.proofs.Common.{◌≡◌, ◌++◌, drop, map}
use Rattle.go_syntax.specs.View.{expr_view, exprs_of}
use Rattle.go_calls.specs.Called.{texts}
use Rattle.go_calls.specs.Called.{called_in_all}
use Rattle.go_calls.proofs.callee.names.+called.Given as goal

-- the names so far and those in what is left are all
abbrev pub invariant-add_all-loop-x : goal.invariant-add_all-loop-x
invariant-add_all-loop-x l = texts l.names.items ++ called_in_all (exprs_of (map expr_view (drop l.x-index l.xs))) ≡ texts l.initial.names.items ++ called_in_all (exprs_of (map expr_view l.xs))
