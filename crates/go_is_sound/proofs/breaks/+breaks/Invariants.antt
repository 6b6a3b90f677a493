use Rattle.std.proofs.Common.{◌≡◌, drop, map}
use Rattle.go_type.specs.Table.{places}
use Rattle.go_core.specs.CoreView.{stmt_view, stmts_of, clauses_of, cases_of}
use Rattle.go_core.specs.Terminating.{any_breaks, clause_breaks, case_breaks}
use Rattle.go_is_sound.specs.ClauseView.{clause_view, case_view}
use Rattle.go_is_sound.proofs.breaks.+breaks.Given as goal

abbrev pub invariant-any_breaks-loop-s : goal.invariant-any_breaks-loop-s
invariant-any_breaks-loop-s l =
    any_breaks l.label.0 (stmts_of (map (stmt_view (places l.table)) l.s-items)) ≡ any_breaks l.label.0 (stmts_of (map (stmt_view (places l.table)) (drop l.s-index l.s-items)))

abbrev pub invariant-clause_breaks-loop-c : goal.invariant-clause_breaks-loop-c
invariant-clause_breaks-loop-c l =
    clause_breaks l.label.0 (clauses_of (map (clause_view (places l.table)) l.c-items)) ≡ clause_breaks l.label.0 (clauses_of (map (clause_view (places l.table)) (drop l.c-index l.c-items)))

abbrev pub invariant-case_breaks-loop-c : goal.invariant-case_breaks-loop-c
invariant-case_breaks-loop-c l =
    case_breaks l.label.0 (cases_of (map (case_view (places l.table)) l.c-items)) ≡ case_breaks l.label.0 (cases_of (map (case_view (places l.table)) (drop l.c-index l.c-items)))
