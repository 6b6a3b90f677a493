use Rattle.std.proofs.Common.{◌≡◌, drop, map, List}
use Rattle.std.specs.Prelude.{option_map}
use Rattle.js_tree.specs.Script.{Cases}
use Rattle.js_tree.specs.Evaluate.{declared_all, declared_cases}
use Rattle.js_tree.specs.View.{stmt_view, stmts_view, stmts_of, case_view, cases_of, last_case}
use Rattle.js_tree.specs.declared.tree.JsCase.{JsCase}
use Rattle.js_tree.specs.declared.tree.JsCases.{JsCases, out-JsCases}
use Rattle.js_code.specs.Names.{names_of, with_names}
use Rattle.js_code.proofs.slots.names.+declared.Given as goal

abbrev pub invariant-add_stmts-loop-s : goal.invariant-add_stmts-loop-s
invariant-add_stmts-loop-s l =
    with_names (names_of l.names.set.keys) (declared_all (stmts_of (map stmt_view (drop l.s-index l.s-items))))
    ≡ with_names (names_of l.initial.names.set.keys) (declared_all (stmts_of (map stmt_view l.s-items)))

-- these cases before the last one
abbrev cases_before : List JsCase → JsCases → Cases
cases_before items list = cases_of (map case_view items) (last_case (option_map stmts_view (out-JsCases list).default))

abbrev pub invariant-add_cases-loop-c : goal.invariant-add_cases-loop-c
invariant-add_cases-loop-c l =
    with_names (names_of l.names.set.keys) (declared_cases (cases_before (drop l.c-index l.c-items) l.list))
    ≡ with_names (names_of l.initial.names.set.keys) (declared_cases (cases_before l.c-items l.list))
