use Rattle.std.proofs.Common.{◌≡◌, ◌++◌, drop, map}
use Rattle.go_syntax.specs.Tree as t
use Rattle.go_syntax.specs.View.{stmt_view, stmts_of, clause_view, comm_view, joined}
use Rattle.go_typing.specs.Labels.{labels_in_all, labels_in_clauses, labels_in_comms, branches_in_all, branches_in_clauses, branches_in_comms}
use Rattle.go_walk.specs.Seen.{names_of, texts}
use Rattle.go_walk.proofs.labels.found.+labels.Given as goal

-- those so far and those in what is left are all
abbrev pub invariant-in_stmts-loop-s : goal.invariant-in_stmts-loop-s
invariant-in_stmts-loop-s l = record {
  labels : names_of l.found.labels.items ++ labels_in_all (stmts_of (map stmt_view (drop l.s-index l.ss))) ≡ names_of l.initial.found.labels.items ++ labels_in_all (stmts_of (map stmt_view l.ss));
  branches : texts l.found.branches.items ++ branches_in_all (stmts_of (map stmt_view (drop l.s-index l.ss))) ≡ texts l.initial.found.branches.items ++ branches_in_all (stmts_of (map stmt_view l.ss));
}

abbrev pub invariant-in_clauses-loop-c : goal.invariant-in_clauses-loop-c
invariant-in_clauses-loop-c l = record {
  labels : names_of l.found.labels.items ++ labels_in_clauses (joined (map clause_view (drop l.c-index l.cs)) t.NoClauses) ≡ names_of l.initial.found.labels.items ++ labels_in_clauses (joined (map clause_view l.cs) t.NoClauses);
  branches : texts l.found.branches.items ++ branches_in_clauses (joined (map clause_view (drop l.c-index l.cs)) t.NoClauses) ≡ texts l.initial.found.branches.items ++ branches_in_clauses (joined (map clause_view l.cs) t.NoClauses);
}

abbrev pub invariant-in_comms-loop-c : goal.invariant-in_comms-loop-c
invariant-in_comms-loop-c l = record {
  labels : names_of l.found.labels.items ++ labels_in_comms (joined (map comm_view (drop l.c-index l.cs)) t.NoComms) ≡ names_of l.initial.found.labels.items ++ labels_in_comms (joined (map comm_view l.cs) t.NoComms);
  branches : texts l.found.branches.items ++ branches_in_comms (joined (map comm_view (drop l.c-index l.cs)) t.NoComms) ≡ texts l.initial.found.branches.items ++ branches_in_comms (joined (map comm_view l.cs) t.NoComms);
}
