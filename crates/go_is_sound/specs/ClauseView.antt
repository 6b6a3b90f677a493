-- The trees of clauses and of cases: what go_core's specs/CoreView makes of them within a statement.
use Rattle.std.specs.Prelude.{List}
use Rattle.go_type.specs.Tree.{Ty}
use Rattle.go_core.specs.CoreTree.{Stmt, Stmts, Clauses, Cases}
use Rattle.go_core.specs.CoreView.{stmt_step, case_in, cases_in, clause_in, clauses_in, stmt_in, stmts_in}
use Rattle.go_core.specs.declared.statement.CoreClause.{CoreClause, fold-CoreClause}
use Rattle.go_core.specs.declared.statement.CoreClauses.{CoreClauses, fold-CoreClauses}
use Rattle.go_core.specs.declared.statement.CoreCase.{CoreCase, fold-CoreCase}
use Rattle.go_core.specs.declared.statement.CoreCases.{CoreCases, fold-CoreCases}

module _ (ts : List Ty) where
  -- a clause before others
  abbrev pub clause_view : CoreClause → Clauses → Clauses
  clause_view = fold-CoreClause Stmt (Cases → Cases) Cases (Clauses → Clauses) Clauses Stmt Stmts (stmt_step ts) (case_in ts) (cases_in ts) (clause_in ts) (clauses_in ts) (stmt_in ts) (stmts_in ts)

  abbrev pub clauses_view : CoreClauses → Clauses
  clauses_view = fold-CoreClauses Stmt (Cases → Cases) Cases (Clauses → Clauses) Clauses Stmt Stmts (stmt_step ts) (case_in ts) (cases_in ts) (clause_in ts) (clauses_in ts) (stmt_in ts) (stmts_in ts)

  -- a case before others
  abbrev pub case_view : CoreCase → Cases → Cases
  case_view = fold-CoreCase Stmt (Cases → Cases) Cases (Clauses → Clauses) Clauses Stmt Stmts (stmt_step ts) (case_in ts) (cases_in ts) (clause_in ts) (clauses_in ts) (stmt_in ts) (stmts_in ts)

  abbrev pub cases_view : CoreCases → Cases
  cases_view = fold-CoreCases Stmt (Cases → Cases) Cases (Clauses → Clauses) Clauses Stmt Stmts (stmt_step ts) (case_in ts) (cases_in ts) (clause_in ts) (clauses_in ts) (stmt_in ts) (stmts_in ts)
