-- The trees of elements, of pairs, of clauses and of cases: what go_core's specs/CoreView makes of them within a node.
use Rattle.std.specs.Prelude.{List}
use Rattle.go_type.specs.Tree.{Ty}
use Rattle.go_core.specs.CoreTree as core
use Rattle.go_core.specs.CoreTree.{Expr, Exprs, Elements, Pairs, Stmt, Stmts, Clauses, Cases}
use Rattle.go_core.specs.CoreView.{callee_step, expr_step, place_step, element_in, elements_in, expr_in, exprs_in, pair_in, pairs_in, place_in, stmt_step, case_in, cases_in, clause_in, clauses_in, stmt_in, stmts_in}
use Rattle.go_core.specs.declared.node.CoreElement.{CoreElement, fold-CoreElement}
use Rattle.go_core.specs.declared.node.CoreElements.{CoreElements, fold-CoreElements}
use Rattle.go_core.specs.declared.node.CorePair.{CorePair, fold-CorePair}
use Rattle.go_core.specs.declared.node.CorePairs.{CorePairs, fold-CorePairs}
use Rattle.go_core.specs.declared.statement.CoreClause.{CoreClause, fold-CoreClause}
use Rattle.go_core.specs.declared.statement.CoreClauses.{CoreClauses, fold-CoreClauses}
use Rattle.go_core.specs.declared.statement.CoreCase.{CoreCase, fold-CoreCase}
use Rattle.go_core.specs.declared.statement.CoreCases.{CoreCases, fold-CoreCases}

module _ (ts : List Ty) where
  abbrev pub element_view : CoreElement → Elements → Elements
  element_view = fold-CoreElement core.Callee Expr core.CorePlace (Elements → Elements) Elements Expr Exprs (Pairs → Pairs) Pairs core.CorePlace (callee_step ts) (expr_step ts) (place_step ts) (element_in ts) (elements_in ts) (expr_in ts) (exprs_in ts) (pair_in ts) (pairs_in ts) (place_in ts)

  abbrev pub elements_view : CoreElements → Elements
  elements_view = fold-CoreElements core.Callee Expr core.CorePlace (Elements → Elements) Elements Expr Exprs (Pairs → Pairs) Pairs core.CorePlace (callee_step ts) (expr_step ts) (place_step ts) (element_in ts) (elements_in ts) (expr_in ts) (exprs_in ts) (pair_in ts) (pairs_in ts) (place_in ts)

  abbrev pub pair_view : CorePair → Pairs → Pairs
  pair_view = fold-CorePair core.Callee Expr core.CorePlace (Elements → Elements) Elements Expr Exprs (Pairs → Pairs) Pairs core.CorePlace (callee_step ts) (expr_step ts) (place_step ts) (element_in ts) (elements_in ts) (expr_in ts) (exprs_in ts) (pair_in ts) (pairs_in ts) (place_in ts)

  abbrev pub pairs_view : CorePairs → Pairs
  pairs_view = fold-CorePairs core.Callee Expr core.CorePlace (Elements → Elements) Elements Expr Exprs (Pairs → Pairs) Pairs core.CorePlace (callee_step ts) (expr_step ts) (place_step ts) (element_in ts) (elements_in ts) (expr_in ts) (exprs_in ts) (pair_in ts) (pairs_in ts) (place_in ts)

  -- a clause before others
  abbrev pub clause_view : CoreClause → Clauses → Clauses
  clause_view = fold-CoreClause Stmt (Cases → Cases) Cases (Clauses → Clauses) Clauses Stmt Stmts (stmt_step ts) (case_in ts) (cases_in ts) (clause_in ts) (clauses_in ts) (stmt_in ts) (stmts_in ts)

  abbrev pub clauses_view : CoreClauses → Clauses
  clauses_view = fold-CoreClauses Stmt (Cases → Cases) Cases (Clauses → Clauses) Clauses Stmt Stmts (stmt_step ts) (case_in ts) (cases_in ts) (clause_in ts) (clauses_in ts) (stmt_in ts) (stmts_in ts)

  -- a case before others
  abbrev pub case_view : CoreCase → Cases → Cases
  case_view = fold-CoreCase Stmt (Cases → Cases) Cases (Clauses → Clauses) Clauses Stmt Stmts (stmt_step ts) (case_in ts) (cases_in ts) (clause_in ts) (clauses_in ts) (stmt_in ts) (stmts_in ts)

  abbrev pub cases_view : CoreCases → Cases
  cases_view = fold-CoreCases Stmt (Cases → Cases) Cases (Clauses → Clauses) Clauses Stmt Stmts (stmt_step ts) (case_in ts) (cases_in ts) (clause_in ts) (clauses_in ts) (stmt_in ts) (stmts_in ts)
