-- Statements that the grammar derives: after a turn of a loop stands a simple statement.
use Rattle.std.proofs.Common.{Bool, List, Option}
use Rattle.gj_base.specs.declared.place.Place.{Place}
use Rattle.go_syntax.specs.Tree as t
use Rattle.go_syntax.specs.Token.{Token}
use Rattle.go_syntax.specs.declared.tree.Name.{Name}
use Rattle.go_grammar.specs.Grammar.{IsSimple, exprs_stmt, assign, op_assign, define, send, increment, decrement, PerhapsSimple, without_simple, with_simple, IsBefore, nothing_before, before, IsCondition, condition, PerhapsCondition, without_condition, with_condition, PerhapsPost, without_post, with_post, PerhapsHeaderExpr, without_header_expr, with_header_expr, IsGuard, guard, named_guard}
use Rattle.go_grammar.specs.Grammar.{IsBlock, block_braces, AreStmts, no_stmts, last_stmt, missing_stmt, more_stmts, IsStmt, declaration, simple, label, label_of_none, block, go_expr, defer_expr, return_none, return_exprs, break_stmt, continue_stmt, fallthrough_stmt, if_stmt, for_stmt, switch_stmt, select_stmt}
use Rattle.go_grammar.specs.Grammar.{IsIf, without_else, with_else, IsElse, else_if, else_block, IsFor, for_condition, for_clauses, for_range, for_range_assign, for_range_define, IsSwitch, expr_switch, type_switch, AreClauses, no_clauses, case_clause, default_clause, AreComms, no_comms, case_comm, default_comm}
use Rattle.go_sound.specs.SoundTyped.{HasOperators, BoundHasOperators}
use Rattle.go_sound.specs.Grammar as of
use Rattle.go_sound.specs.Grammar.{StmtOfGrammar, MaybeOfGrammar, BlockOfGrammar, StmtsOfGrammar, ClausesOfGrammar, CommsOfGrammar}
use Rattle.go_loaded.proofs.Operators.{assign_operator, expr_operators, all_operators}
use Rattle.go_loaded.proofs.Declarations.{decl_derived}

-- ---- simple statements

simple_derived : {h : Bool} {ts : List Token} {s : t.Stmt} → IsSimple h ts s → StmtOfGrammar s
simple_derived (exprs_stmt xs) = all_operators xs
simple_derived (assign xs x ys) = (all_operators xs, tt, all_operators ys)
simple_derived (op_assign {u} op xs x ys) = (all_operators xs, assign_operator op u x, all_operators ys)
simple_derived (define xs x ys) = (all_operators xs, all_operators ys)
simple_derived (send xs m x d) = (all_operators xs, expr_operators d)
simple_derived (increment xs x) = all_operators xs
simple_derived (decrement xs x) = all_operators xs

is_simple : {h : Bool} {ts : List Token} {s : t.Stmt} → IsSimple h ts s → of.IsSimple (t.AStmt s)
is_simple (exprs_stmt xs) = tt
is_simple (assign xs x ys) = tt
is_simple (op_assign op xs x ys) = tt
is_simple (define xs x ys) = tt
is_simple (send xs m x d) = tt
is_simple (increment xs x) = tt
is_simple (decrement xs x) = tt

-- ---- headers

perhaps_derived : {ts : List Token} {s : t.MaybeStmt} → PerhapsSimple ts s → MaybeOfGrammar s
perhaps_derived without_simple = tt
perhaps_derived (with_simple d) = simple_derived d

before_derived : {ts : List Token} {s : t.MaybeStmt} → IsBefore ts s → MaybeOfGrammar s
before_derived nothing_before = tt
before_derived (before d x) = perhaps_derived d

condition_operators : {ts : List Token} {e : t.Expr} → IsCondition ts e → HasOperators e
condition_operators (condition d w) = expr_operators d

bound_operators : {ts : List Token} {e : t.MaybeExpr} → PerhapsCondition ts e → BoundHasOperators e
bound_operators without_condition = tt
bound_operators (with_condition d) = condition_operators d

header_operators : {ts : List Token} {e : t.MaybeExpr} → PerhapsHeaderExpr ts e → BoundHasOperators e
header_operators without_header_expr = tt
header_operators (with_header_expr d) = expr_operators d

post_derived : {ts : List Token} {s : t.MaybeStmt} → PerhapsPost ts s → MaybeOfGrammar s
post_derived without_post = tt
post_derived (with_post d w) = simple_derived d

post_simple : {ts : List Token} {s : t.MaybeStmt} → PerhapsPost ts s → of.IsSimple s
post_simple without_post = tt
post_simple (with_post d w) = is_simple d

guard_operators : {ts : List Token} {x : Option Name} {e : t.Expr} → IsGuard ts x e → HasOperators e
guard_operators (guard d w x y z a) = expr_operators d
guard_operators (named_guard x y d w z a b c) = expr_operators d

-- ---- the whole

mutual
  pub block_derived : {ts : List Token} {b : t.Block} → IsBlock ts b → BlockOfGrammar b
  block_derived (block_braces x d y) = stmts_derived d

  stmts_derived : {at : Place} {ts : List Token} {ss : t.Stmts} → AreStmts at ts ss → StmtsOfGrammar ss
  stmts_derived no_stmts = tt
  stmts_derived (last_stmt d) = (stmt_derived d, tt)
  stmts_derived (missing_stmt x d) = stmts_derived d
  stmts_derived (more_stmts d x ds) = (stmt_derived d, stmts_derived ds)

  stmt_derived : {at : Place} {ts : List Token} {s : t.Stmt} → IsStmt at ts s → StmtOfGrammar s
  stmt_derived (declaration d) = decl_derived d
  stmt_derived (simple d) = simple_derived d
  stmt_derived (label x y d) = stmt_derived d
  stmt_derived (label_of_none x y) = tt
  stmt_derived (block d) = block_derived d
  stmt_derived (go_expr x d) = expr_operators d
  stmt_derived (defer_expr x d) = expr_operators d
  stmt_derived (return_none x) = tt
  stmt_derived (return_exprs x ys) = all_operators ys
  stmt_derived (break_stmt x n) = tt
  stmt_derived (continue_stmt x n) = tt
  stmt_derived (fallthrough_stmt x) = tt
  stmt_derived (if_stmt d) = if_derived d
  stmt_derived (for_stmt d) = for_derived d
  stmt_derived (switch_stmt d) = switch_derived d
  stmt_derived (select_stmt x y d z) = comms_derived d

  if_derived : {ts : List Token} {s : t.Stmt} → IsIf ts s → StmtOfGrammar s
  if_derived (without_else x init c b) = (before_derived init, condition_operators c, block_derived b, tt)
  if_derived (with_else x init c b y other) = (before_derived init, condition_operators c, block_derived b, else_derived other)

  else_derived : {ts : List Token} {s : t.Stmt} → IsElse ts s → StmtOfGrammar s
  else_derived (else_if d) = if_derived d
  else_derived (else_block d) = block_derived d

  for_derived : {ts : List Token} {s : t.Stmt} → IsFor ts s → StmtOfGrammar s
  for_derived (for_condition x c b) = (tt, bound_operators c, tt, tt, block_derived b)
  for_derived (for_clauses x init y c z post b) = (perhaps_derived init, header_operators c, post_simple post, post_derived post, block_derived b)
  for_derived (for_range x y c b) = (tt, condition_operators c, block_derived b)
  for_derived (for_range_assign x xs y z c b) = (all_operators xs, condition_operators c, block_derived b)
  for_derived (for_range_define x xs y z c b) = (all_operators xs, condition_operators c, block_derived b)

  switch_derived : {ts : List Token} {s : t.Stmt} → IsSwitch ts s → StmtOfGrammar s
  switch_derived (expr_switch x init c y cs z) = (before_derived init, bound_operators c, clauses_derived cs)
  switch_derived (type_switch x init g y cs z) = (before_derived init, guard_operators g, clauses_derived cs)

  clauses_derived : {at : Place} {ts : List Token} {cs : t.Clauses} → AreClauses at ts cs → ClausesOfGrammar cs
  clauses_derived no_clauses = tt
  clauses_derived (case_clause x xs y ss cs) = (all_operators xs, stmts_derived ss, clauses_derived cs)
  clauses_derived (default_clause x y ss cs) = (tt, stmts_derived ss, clauses_derived cs)

  comms_derived : {at : Place} {ts : List Token} {cs : t.Comms} → AreComms at ts cs → CommsOfGrammar cs
  comms_derived no_comms = tt
  comms_derived (case_comm x d y ss cs) = (simple_derived d, stmts_derived ss, comms_derived cs)
  comms_derived (default_comm x y ss cs) = (tt, stmts_derived ss, comms_derived cs)
