-- Own: where no token of a text is nested deeper than 1000, names, numbers and strings aside.
use Rattle.std.specs.Prelude.{◌≡◌, ℕ, suc, ◌+◌, List, Some, None, Bool, true, ◌&&◌}
use Rattle.std.specs.List.{list_all}
use Rattle.js_tree.specs.Script.{Expr, number, string, boolean, null, name, unary, binary, both, either, choice, call, index, length_of, pop, char_code_at, substring, array, dictionary, decimal_of, from_char_code, Exprs, no_exprs, expr, Stmt, declare, assign, store, perform, push, remove, branch, while, forever, switch, return, throw, break, continue, attempt, Stmts, no_stmts, stmt, Else, no_else, else_block, else_if, Cases, no_cases, default, case, Item, function_item, global_item, ScriptTree}
use Rattle.js_tree.specs.Printed.{op_level, dot_level}
use Rattle.js_tree.specs.Printable.{fits, depth_within, operators, parts, is_printable}
use Rattle.js_tree.specs.Scripts.{IsScript}

abbrev mutual
  -- no token of an expression whose first one, parentheses aside, is nested so deep is nested deeper than 1000
  pub nests : ℕ → Expr → Bool
  nests d (number at n) = fits d
  nests d (string at s) = fits d
  nests d (boolean at b) = fits d
  nests d (null at) = fits d
  nests d (name at x) = fits d
  nests d (unary at op e) = nests (depth_within 11 (suc d) e) e
  nests d (binary at op a b) =
      nests (depth_within (op_level op) d a) a && nests (depth_within (suc (op_level op)) (suc (d + operators (op_level op) a)) b) b
  nests d (both at a b) =
      nests (depth_within 2 d a) a && nests (depth_within 3 (suc (d + operators 2 a)) b) b
  nests d (either at a b) =
      nests (depth_within 1 d a) a && nests (depth_within 2 (suc (d + operators 1 a)) b) b
  nests d (choice at t a b) = nests (depth_within 1 d t) t && nests (suc d) a && nests (suc d) b
  nests d (call at f es) =
      nests (depth_within 12 d f) f && fits (d + parts f) && all_nest (suc (d + parts f)) es
  nests d (index at e i) = nests (depth_within 12 d e) e && nests (suc (d + parts e)) i
  nests d (length_of at e) = nests (depth_within (dot_level e) d e) e && fits (d + parts e)
  nests d (pop at e) = nests (depth_within (dot_level e) d e) e && fits (d + parts e)
  nests d (char_code_at at e i) =
      nests (depth_within (dot_level e) d e) e && nests (suc (d + parts e)) i
  nests d (substring at e i j) =
      nests (depth_within (dot_level e) d e) e && nests (suc (d + parts e)) i && nests (suc (d + parts e)) j
  nests d (array at es) = fits d && all_nest (suc d) es
  nests d (dictionary at) = fits (suc d)
  nests d (decimal_of at e) = nests (suc d) e
  nests d (from_char_code at e) = nests (suc d) e

  pub all_nest : ℕ → Exprs → Bool
  all_nest d no_exprs = true
  all_nest d (expr e es) = nests d e && all_nest d es

abbrev mutual
  -- the same of a statement
  pub stmt_nests : ℕ → Stmt → Bool
  stmt_nests d (declare at x e) = nests d e
  stmt_nests d (assign at x e) = nests d e
  stmt_nests d (store at e i v) =
      nests (depth_within 12 d e) e && nests (suc (d + parts e)) i && nests d v
  stmt_nests d (perform at e) = nests d e
  stmt_nests d (push at e v) = nests (depth_within (dot_level e) d e) e && nests (suc (d + parts e)) v
  stmt_nests d (remove at e k) = nests (depth_within 12 d e) e && nests (suc (d + parts e)) k
  stmt_nests d (branch at t ss other) = nests (suc d) t && stmts_nest (suc d) ss && else_nests d other
  stmt_nests d (while at l t ss) = nests (suc d) t && stmts_nest (suc d) ss
  stmt_nests d (forever at l ss) = fits (suc d) && stmts_nest (suc d) ss
  stmt_nests d (switch at l e cases) = nests (suc d) e && cases_nest (suc d) cases
  stmt_nests d (return at None) = fits d
  stmt_nests d (return at (Some e)) = nests d e
  stmt_nests d (throw at e) = nests d e
  stmt_nests d (break at l) = fits d
  stmt_nests d (continue at l) = fits d
  stmt_nests d (attempt at ss handler) = fits (suc d) && stmts_nest (suc d) ss && stmts_nest (suc d) handler

  pub stmts_nest : ℕ → Stmts → Bool
  stmts_nest d no_stmts = true
  stmts_nest d (stmt s ss) = stmt_nests d s && stmts_nest d ss

  -- what follows an `else` is nested one deeper
  pub else_nests : ℕ → Else → Bool
  else_nests d no_else = true
  else_nests d (else_block ss) = fits (suc d) && stmts_nest (suc (suc d)) ss
  else_nests d (else_if at t ss other) =
      nests (suc (suc d)) t && stmts_nest (suc (suc d)) ss && else_nests (suc d) other

  pub cases_nest : ℕ → Cases → Bool
  cases_nest d no_cases = true
  cases_nest d (default ss) = fits d && stmts_nest d ss
  cases_nest d (case n ss rest) = fits d && stmts_nest d ss && cases_nest d rest

abbrev pub item_nests : Item → Bool
item_nests (function_item f) = stmts_nest 1 f.body
item_nests (global_item at x e) = nests 0 e

abbrev pub script_nests : ScriptTree → Bool
script_nests script = list_all item_nests script.items

-- a tree that was read has a text exactly where this is so
abbrev pub PrintsWhereNested : Type 0
PrintsWhereNested = (bytes : List ℕ) (s : ScriptTree) → IsScript bytes s → is_printable s ≡ script_nests s
