use Rattle.std.proofs.Common.{◌≡◌, ◌++◌, List, drop, map}
use Rattle.std.specs.Prelude.{IsTrue}
use Rattle.std.specs.List.{list_all}
use Rattle.js_tree.specs.Printable.{is_byte}
use Rattle.go_type.specs.Tree.{Ty}
use Rattle.go_core.specs.CoreView.{expr_view, exprs_of}
use Rattle.go_core.specs.Text.{rest_of_line}
use Rattle.js_prints.specs.Emitted.{texts_in}
use Rattle.js_prints.proofs.output.push_rest.Given as goal

-- what was written, and what is left to write
abbrev pub invariant-loop-operand : goal.invariant-loop-operand
invariant-loop-operand l = record {
  written : (ts : List Ty) → l.text ++ rest_of_line (texts_in (exprs_of (map (expr_view ts) (drop l.operand-index l.others)))) ≡ l.fn.text ++ rest_of_line (texts_in (exprs_of (map (expr_view ts) l.others)));
  bytes : IsTrue (list_all is_byte l.fn.text) → IsTrue (list_all is_byte l.text);
}
