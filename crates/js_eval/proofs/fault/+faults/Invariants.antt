use Rattle.std.proofs.Common.{◌≡◌, ◌++◌, drop, map, List}
use Rattle.std.specs.Prelude.{option_map}
use Rattle.js_tree.specs.Script.{Cases}
use Rattle.js_tree.specs.Static.{stmts_faults, cases_faults}
use Rattle.js_tree.specs.View.{stmt_view, stmts_view, stmts_of, case_view, cases_of, last_case}
use Rattle.js_tree.specs.declared.tree.JsCase.{JsCase}
use Rattle.js_tree.specs.declared.tree.JsCases.{JsCases, out-JsCases}
use Rattle.js_eval.specs.Faults.{arounds_of}
use Rattle.js_eval.proofs.fault.+faults.Given as goal

abbrev pub invariant-stmts_faults-loop-s : goal.invariant-stmts_faults-loop-s
invariant-stmts_faults-loop-s l =
    l.faults.items ++ stmts_faults (arounds_of l.around) (stmts_of (map stmt_view (drop l.s-index l.s-items)))
    ≡ l.initial.faults.items ++ stmts_faults (arounds_of l.around) (stmts_of (map stmt_view l.s-items))

-- these cases before the last one
abbrev cases_before : List JsCase → JsCases → Cases
cases_before items list = cases_of (map case_view items) (last_case (option_map stmts_view (out-JsCases list).default))

abbrev pub invariant-cases_faults-loop-c : goal.invariant-cases_faults-loop-c
invariant-cases_faults-loop-c l =
    l.faults.items ++ cases_faults (arounds_of l.around) (cases_before (drop l.c-index l.c-items) l.list)
    ≡ l.initial.faults.items ++ cases_faults (arounds_of l.around) (cases_before l.c-items l.list)
