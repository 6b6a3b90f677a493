use Rattle.std.proofs.Common.{◌≡◌, true, drop, map, List}
use Rattle.std.specs.Prelude.{option_map}
use Rattle.js_tree.specs.declared.tree.JsCase.{JsCase}
use Rattle.js_tree.specs.declared.tree.JsCases.{JsCases, out-JsCases}
use Rattle.js_tree.specs.Script.{Cases}
use Rattle.js_tree.specs.View.{stmt_view, stmts_view, stmts_of, case_view, cases_of, last_case}
use Rattle.js_tree.specs.Printable.{stmts_fit, cases_fit}
use Rattle.js_printable.proofs.stmt.+fits.Given as goal

-- where those that are left fit, all do
abbrev pub invariant-stmts-loop-s : goal.invariant-stmts-loop-s
invariant-stmts-loop-s l =
    stmts_fit l.d (stmts_of (map stmt_view (drop l.s-index l.s-items))) ≡ true → stmts_fit l.d (stmts_of (map stmt_view l.s-items)) ≡ true

-- these cases before the last one
abbrev cases_before : List JsCase → JsCases → Cases
cases_before items list = cases_of (map case_view items) (last_case (option_map stmts_view (out-JsCases list).default))

abbrev pub invariant-cases-loop-c : goal.invariant-cases-loop-c
invariant-cases-loop-c l =
    cases_fit l.d (cases_before (drop l.c-index l.c-items) l.list) ≡ true → cases_fit l.d (cases_before l.c-items l.list) ≡ true
