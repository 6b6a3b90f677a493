-- How much a part of a script weighs: more than its parts together. For private clauses and measures alone.
use Rattle.std.specs.Prelude.{ℕ, ◌+◌, List, [], ◌∷◌, Option, Some, None}
use Rattle.js_tree.specs.Script.{Expr, number, string, boolean, null, name, unary, binary, both, either, choice, call, index, length_of, pop, char_code_at, substring, array, dictionary, decimal_of, from_char_code, Exprs, no_exprs, expr, Stmt, declare, assign, store, perform, push, remove, branch, while, forever, switch, return, throw, break, continue, attempt, Stmts, no_stmts, stmt, Else, no_else, else_block, else_if, Cases, no_cases, default, case, Item, function_item, global_item}

abbrev mutual
  pub expr_weight : Expr → ℕ
  expr_weight (number at n) = 1
  expr_weight (string at s) = 1
  expr_weight (boolean at b) = 1
  expr_weight (null at) = 1
  expr_weight (name at x) = 1
  expr_weight (unary at op e) = expr_weight e + 2
  expr_weight (binary at op a b) = expr_weight a + expr_weight b + 2
  expr_weight (both at a b) = expr_weight a + expr_weight b + 2
  expr_weight (either at a b) = expr_weight a + expr_weight b + 2
  expr_weight (choice at t a b) = expr_weight t + expr_weight a + expr_weight b + 2
  expr_weight (call at f es) = expr_weight f + exprs_weight es + 2
  expr_weight (index at e i) = expr_weight e + expr_weight i + 2
  expr_weight (length_of at e) = expr_weight e + 2
  expr_weight (pop at e) = expr_weight e + 2
  expr_weight (char_code_at at e i) = expr_weight e + expr_weight i + 2
  expr_weight (substring at e i j) = expr_weight e + expr_weight i + expr_weight j + 2
  expr_weight (array at es) = exprs_weight es + 2
  expr_weight (dictionary at) = 1
  expr_weight (decimal_of at e) = expr_weight e + 2
  expr_weight (from_char_code at e) = expr_weight e + 2

  pub exprs_weight : Exprs → ℕ
  exprs_weight no_exprs = 1
  exprs_weight (expr e es) = expr_weight e + exprs_weight es + 1

abbrev pub option_weight : Option Expr → ℕ
option_weight None = 0
option_weight (Some e) = expr_weight e

abbrev mutual
  pub stmt_weight : Stmt → ℕ
  stmt_weight (declare at x e) = expr_weight e + 2
  stmt_weight (assign at x e) = expr_weight e + 2
  stmt_weight (store at e i v) = expr_weight e + expr_weight i + expr_weight v + 2
  stmt_weight (perform at e) = expr_weight e + 2
  stmt_weight (push at e v) = expr_weight e + expr_weight v + 2
  stmt_weight (remove at e k) = expr_weight e + expr_weight k + 2
  stmt_weight (branch at t ss other) = expr_weight t + stmts_weight ss + else_weight other + 2
  stmt_weight (while at l t ss) = expr_weight t + stmts_weight ss + 2
  stmt_weight (forever at l ss) = stmts_weight ss + 2
  stmt_weight (switch at l e cases) = expr_weight e + cases_weight cases + 2
  stmt_weight (return at e) = option_weight e + 2
  stmt_weight (throw at e) = expr_weight e + 2
  stmt_weight (break at l) = 1
  stmt_weight (continue at l) = 1
  stmt_weight (attempt at ss handler) = stmts_weight ss + stmts_weight handler + 2

  pub stmts_weight : Stmts → ℕ
  stmts_weight no_stmts = 1
  stmts_weight (stmt s ss) = stmt_weight s + stmts_weight ss + 1

  pub else_weight : Else → ℕ
  else_weight no_else = 1
  else_weight (else_block ss) = stmts_weight ss + 2
  else_weight (else_if at t ss other) = expr_weight t + stmts_weight ss + else_weight other + 2

  pub cases_weight : Cases → ℕ
  cases_weight no_cases = 1
  cases_weight (default ss) = stmts_weight ss + 2
  cases_weight (case n ss rest) = stmts_weight ss + cases_weight rest + 2

-- what the bodies of functions weigh together
abbrev pub items_weight : List Item → ℕ
items_weight [] = 0
items_weight (function_item f ∷ rest) = stmts_weight f.body + items_weight rest
items_weight (global_item at x e ∷ rest) = items_weight rest
