use Rattle.std.proofs.Common.{◌≡◌, ◌++◌, List, drop, map}
use Rattle.js_tree.specs.View.{stmt_view}
use Rattle.js_prints.specs.Emitted.{AllFit, all_writes_of}
use Rattle.js_prints.specs.Lines.{print_lines}
use Rattle.js_prints.proofs.lines.calls_of_lines.Given as goal

-- what was emitted, and what is left to emit
abbrev pub invariant-loop-text : goal.invariant-loop-text
invariant-loop-text l = record {
  emitted : map stmt_view l.calls.items ++ all_writes_of (print_lines (drop l.text-index l.texts)) ≡ all_writes_of (print_lines l.texts);
  printable : AllFit (map stmt_view l.calls.items);
}
