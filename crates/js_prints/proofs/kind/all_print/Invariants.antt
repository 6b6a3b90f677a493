use Rattle.std.proofs.Common.{◌≡◌, List, drop, map}
use Rattle.go_type.specs.Tree.{Ty}
use Rattle.go_core.specs.CoreView.{stmt_view, stmts_of}
use Rattle.js_prints.specs.Prints.{all_print}
use Rattle.js_prints.proofs.kind.all_print.Given as goal

-- the statements so far print
abbrev pub invariant-loop-s : goal.invariant-loop-s
invariant-loop-s l = (ts : List Ty) → all_print (stmts_of (map (stmt_view ts) (drop l.s-index l.stmts))) ≡ all_print (stmts_of (map (stmt_view ts) l.stmts))
