use Rattle.std.proofs.Common.{◌≡◌, drop, map}
use Rattle.go_type.specs.Table.{places}
use Rattle.go_core.specs.CoreView.{clauses_of, cases_of}
use Rattle.go_core.specs.Terminating.{all_terminating, cases_terminating}
use Rattle.go_is_sound.specs.ClauseView.{clause_view, case_view}
use Rattle.go_is_sound.proofs.ends.+ends.Given as goal

abbrev pub invariant-all_terminating-loop-c : goal.invariant-all_terminating-loop-c
invariant-all_terminating-loop-c l =
    all_terminating (clauses_of (map (clause_view (places l.table)) l.c-items)) ≡ all_terminating (clauses_of (map (clause_view (places l.table)) (drop l.c-index l.c-items)))

abbrev pub invariant-cases_terminating-loop-c : goal.invariant-cases_terminating-loop-c
invariant-cases_terminating-loop-c l =
    cases_terminating (cases_of (map (case_view (places l.table)) l.c-items)) ≡ cases_terminating (cases_of (map (case_view (places l.table)) (drop l.c-index l.c-items)))
