-- The forms of names, numbers and strings that a text asks of a tree, nesting aside.
use Rattle.std.specs.Prelude.{Option, Some, None, Bool, true, ◌&&◌, IsTrue}
use Rattle.std.specs.List.{list_all}
use Rattle.js_tree.specs.Script.{Expr, number, string, boolean, null, name, unary, binary, both, either, choice, call, index, length_of, pop, char_code_at, substring, array, dictionary, decimal_of, from_char_code, Exprs, no_exprs, expr, Stmt, declare, assign, store, perform, push, remove, branch, while, forever, switch, return, throw, break, continue, attempt, Stmts, no_stmts, stmt, Else, no_else, else_block, else_if, Cases, no_cases, default, case, Item, function_item, global_item, ScriptTree}
use Rattle.js_tree.specs.Printable.{is_name, is_own_name, is_own_label, is_in_range, is_byte, is_call}

abbrev mutual
  pub has_forms : Expr → Bool
  has_forms (number at n) = is_in_range n
  has_forms (string at s) = list_all is_byte s
  has_forms (boolean at b) = true
  has_forms (null at) = true
  has_forms (name at x) = is_name x
  has_forms (unary at op e) = has_forms e
  has_forms (binary at op a b) = has_forms a && has_forms b
  has_forms (both at a b) = has_forms a && has_forms b
  has_forms (either at a b) = has_forms a && has_forms b
  has_forms (choice at t a b) = has_forms t && has_forms a && has_forms b
  has_forms (call at f es) = has_forms f && have_forms es
  has_forms (index at e i) = has_forms e && has_forms i
  has_forms (length_of at e) = has_forms e
  has_forms (pop at e) = has_forms e
  has_forms (char_code_at at e i) = has_forms e && has_forms i
  has_forms (substring at e i j) = has_forms e && has_forms i && has_forms j
  has_forms (array at es) = have_forms es
  has_forms (dictionary at) = true
  has_forms (decimal_of at e) = has_forms e
  has_forms (from_char_code at e) = has_forms e

  pub have_forms : Exprs → Bool
  have_forms no_exprs = true
  have_forms (expr e es) = has_forms e && have_forms es

abbrev pub value_has_forms : Option Expr → Bool
value_has_forms None = true
value_has_forms (Some e) = has_forms e

abbrev mutual
  pub stmt_has_forms : Stmt → Bool
  stmt_has_forms (declare at x e) = is_own_name x && has_forms e
  stmt_has_forms (assign at x e) = is_own_name x && has_forms e
  stmt_has_forms (store at e i v) = has_forms e && has_forms i && has_forms v
  stmt_has_forms (perform at e) = is_call e && has_forms e
  stmt_has_forms (push at e v) = has_forms e && has_forms v
  stmt_has_forms (remove at e k) = has_forms e && has_forms k
  stmt_has_forms (branch at t ss other) = has_forms t && stmts_have_forms ss && else_has_forms other
  stmt_has_forms (while at l t ss) = is_own_label l && has_forms t && stmts_have_forms ss
  stmt_has_forms (forever at l ss) = is_own_label l && stmts_have_forms ss
  stmt_has_forms (switch at l e cs) = is_own_label l && has_forms e && cases_have_forms cs
  stmt_has_forms (return at e) = value_has_forms e
  stmt_has_forms (throw at e) = has_forms e
  stmt_has_forms (break at l) = is_own_label l
  stmt_has_forms (continue at l) = is_own_label l
  stmt_has_forms (attempt at ss handler) = stmts_have_forms ss && stmts_have_forms handler

  pub stmts_have_forms : Stmts → Bool
  stmts_have_forms no_stmts = true
  stmts_have_forms (stmt s ss) = stmt_has_forms s && stmts_have_forms ss

  pub else_has_forms : Else → Bool
  else_has_forms no_else = true
  else_has_forms (else_block ss) = stmts_have_forms ss
  else_has_forms (else_if at t ss other) = has_forms t && stmts_have_forms ss && else_has_forms other

  pub cases_have_forms : Cases → Bool
  cases_have_forms no_cases = true
  cases_have_forms (default ss) = stmts_have_forms ss
  cases_have_forms (case n ss rest) = is_in_range n && stmts_have_forms ss && cases_have_forms rest

abbrev pub item_has_forms : Item → Bool
item_has_forms (function_item f) = is_own_name f.name && list_all is_own_name f.params && stmts_have_forms f.body
item_has_forms (global_item at x e) = is_own_name x && has_forms e

-- a tree has the forms
abbrev pub IsFormed : ScriptTree → Type 0
IsFormed script = IsTrue (list_all item_has_forms script.items && is_name script.start)
