use Rattle.std.proofs.Common.{◌≡◌, ◌++◌, List, drop, map}
use Rattle.std.specs.Prelude.{IsTrue}
use Rattle.std.specs.List.{list_all}
use Rattle.js_tree.specs.Printable.{is_byte}
use Rattle.go_type.specs.Tree.{Ty}
use Rattle.go_core.specs.CoreView.{expr_view, exprs_of}
use Rattle.go_core.specs.Text.{joined}
use Rattle.js_prints.specs.Emitted.{texts_in}
use Rattle.js_prints.proofs.output.side_by_side.Given as goal

-- what was written, and what is left to write
abbrev pub invariant-loop-operand : goal.invariant-loop-operand
invariant-loop-operand l = record {
  written : (ts : List Ty) → l.text ++ joined (texts_in (exprs_of (map (expr_view ts) (drop l.operand-index l.operands)))) ≡ joined (texts_in (exprs_of (map (expr_view ts) l.operands)));
  bytes : IsTrue (list_all is_byte l.text);
}
