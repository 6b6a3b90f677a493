use Rattle.std.proofs.Common.{◌≡◌, ◌++◌, List, drop, map}
use Rattle.go_type.specs.Tree.{Ty}
use Rattle.go_core.specs.CoreView.{stmts_of}
use Rattle.go_core.specs.CoreView as core
use Rattle.js_tree.specs.View.{stmt_view}
use Rattle.js_prints.specs.Emitted.{AllFit, all_writes_of}
use Rattle.js_prints.proofs.script.calls_of.Given as goal

-- what was emitted, and what is left to emit
abbrev pub invariant-loop-stmt : goal.invariant-loop-stmt
invariant-loop-stmt l = record {
  emitted : (ts : List Ty) → map stmt_view l.calls.items ++ all_writes_of (stmts_of (map (core.stmt_view ts) (drop l.stmt-index l.body))) ≡ all_writes_of (stmts_of (map (core.stmt_view ts) l.body));
  printable : AllFit (map stmt_view l.calls.items);
}
