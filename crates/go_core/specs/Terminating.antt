-- Go specification (as of Go 1.17), "Terminating statements": after which control does not come to the end of a
-- body.
use Rattle.std.specs.Prelude.{ℕ, Bool, true, false, ◌&&◌, ◌||◌, not, ◌==◌, Option, Some, None}
use Rattle.go_core.specs.CoreTree as core
use Rattle.go_core.specs.CoreTree.{Stmt, Stmts, no_stmts, stmt, Clauses, no_clauses, clause, Cases, no_cases, case, Bound, no_bound, bound, BranchKind, break_, continue_}

abbrev pub is_break : BranchKind → Bool
is_break break_ = true
is_break continue_ = false

abbrev mutual
  -- a `break` to this label stands in it
  pub breaks : ℕ → Stmt → Bool
  breaks label (core.sequence ss) = any_breaks label ss
  breaks label (core.if_ e a b) = any_breaks label a || any_breaks label b
  breaks label (core.loop l c body post) = any_breaks label body || any_breaks label post
  breaks label (core.switch_on l ts clauses d) = clause_breaks label clauses
  breaks label (core.range_over l t e k v body) = any_breaks label body
  breaks label (core.labeled l body) = any_breaks label body
  breaks label (core.branch kind l) = is_break kind && (l == label)
  breaks label (core.select_step l cases has_default body) = case_breaks label cases || any_breaks label body
  breaks label _ = false

  pub any_breaks : ℕ → Stmts → Bool
  any_breaks label no_stmts = false
  any_breaks label (stmt s ss) = breaks label s || any_breaks label ss

  pub clause_breaks : ℕ → Clauses → Bool
  clause_breaks label no_clauses = false
  clause_breaks label (clause body falls cs) = any_breaks label body || clause_breaks label cs

  pub case_breaks : ℕ → Cases → Bool
  case_breaks label no_cases = false
  case_breaks label (case c body cs) = any_breaks label body || case_breaks label cs

abbrev pub is_missing : Bound → Bool
is_missing no_bound = true
is_missing (bound e) = false

abbrev pub has_clause : Option ℕ → Bool
has_clause None = false
has_clause (Some n) = true

abbrev mutual
  pub is_terminating : Stmt → Bool
  is_terminating (core.sequence ss) = ends_terminating ss
  is_terminating (core.if_ e a b) = ends_terminating a && ends_terminating b
  is_terminating (core.loop label c body post) = is_missing c && not (any_breaks label body)
  is_terminating (core.switch_on label ts clauses d) = has_clause d && all_terminating clauses && not (clause_breaks label clauses)
  is_terminating (core.labeled label body) = ends_terminating body && not (any_breaks label body)
  is_terminating (core.select_step label cases false body) = cases_terminating cases && not (case_breaks label cases)
  is_terminating (core.select_step label cases true body) = cases_terminating cases && ends_terminating body && not (case_breaks label cases || any_breaks label body)
  is_terminating (core.return_ es) = true
  is_terminating (core.panic_ e) = true
  is_terminating _ = false

  -- the last statement is
  pub ends_terminating : Stmts → Bool
  ends_terminating no_stmts = false
  ends_terminating (stmt s no_stmts) = is_terminating s
  ends_terminating (stmt s ss) = ends_terminating ss

  -- or it falls through to the next one
  pub all_terminating : Clauses → Bool
  all_terminating no_clauses = true
  all_terminating (clause body falls cs) = (falls || ends_terminating body) && all_terminating cs

  pub cases_terminating : Cases → Bool
  cases_terminating no_cases = true
  cases_terminating (case c body cs) = ends_terminating body && cases_terminating cs
