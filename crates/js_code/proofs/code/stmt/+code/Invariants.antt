use Rattle.std.proofs.Common.{◌≡◌, ◌+◌, ◌*◌, drop, map, List}
use Rattle.std.specs.Prelude.{option_map}
use Rattle.js_tree.specs.Script.{Cases}
use Rattle.js_tree.specs.View.{stmt_view, stmts_view, stmts_of, case_view, cases_of, last_case}
use Rattle.js_tree.specs.declared.tree.JsCase.{JsCase}
use Rattle.js_tree.specs.declared.tree.JsCases.{JsCases, out-JsCases}
use Rattle.js_code.specs.Places.{table}
use Rattle.js_code.specs.Parts.{last}
use Rattle.js_code.specs.StmtParts.{with_stmts, with_cases}
use Rattle.js_code.proofs.code.stmt.+code.Given as goal

abbrev pub invariant-add_stmts-loop-i : goal.invariant-add_stmts-loop-i
invariant-add_stmts-loop-i l =
    (l.code ≡ with_stmts (table l.scope) l.fn.code (stmts_of (map stmt_view (drop l.i l.items)))) × (l.rest ≡ last l.code)

-- these cases before the last one
abbrev cases_before : List JsCase → JsCases → Cases
cases_before items list = cases_of (map case_view items) (last_case (option_map stmts_view (out-JsCases list).default))

abbrev pub invariant-add_cases-loop-i : goal.invariant-add_cases-loop-i
invariant-add_cases-loop-i l =
    (l.code ≡ with_cases (table l.scope) l.fn.code (cases_before (drop l.i l.items) l.list)) × (l.rest ≡ last l.code)

abbrev pub decreases-add_stmt : goal.decreases-add_stmt
decreases-add_stmt l = 4 * l.depth

abbrev pub decreases-add_stmts : goal.decreases-add_stmts
decreases-add_stmts l = 4 * l.depth + 1

abbrev pub decreases-add_else : goal.decreases-add_else
decreases-add_else l = 4 * l.depth

abbrev pub decreases-add_default : goal.decreases-add_default
decreases-add_default l = 4 * l.depth + 2

abbrev pub decreases-add_cases : goal.decreases-add_cases
decreases-add_cases l = 4 * l.depth + 3
