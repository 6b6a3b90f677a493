-- Which trees have a text: names, numbers and strings of the subset's forms, and no token of the text nested deeper than 1000. Own, but for the forms.
use Rattle.std.specs.Prelude.{ℕ, suc, ◌+◌, ◌^◌, [], ◌∷◌, Option, Some, None, Bool, true, false, not, if◌then◌else◌, nat_lt, nat_le, ◌==◌, ◌&&◌, ◌||◌, IsTrue, codes, bytes_eq}
use Rattle.std.specs.List.{list_all}
use Rattle.js_tree.specs.Script.{Name, Expr, number, string, boolean, null, name, unary, binary, both, either, choice, call, index, length_of, pop, char_code_at, substring, array, dictionary, decimal_of, from_char_code, Exprs, no_exprs, expr, Stmt, declare, assign, store, perform, push, remove, branch, while, forever, switch, return, throw, break, continue, attempt, Stmts, no_stmts, stmt, Else, no_else, else_block, else_if, Cases, no_cases, default, case, Item, function_item, global_item, ScriptTree}
use Rattle.js_tree.specs.Printed.{level, op_level, dot_level}

-- letters, digits, `_` and `$`
abbrev pub is_name_byte : ℕ → Bool
is_name_byte c =
    nat_le 97 c && nat_le c 122 || nat_le 65 c && nat_le c 90 || nat_le 48 c && nat_le c 57 || c == 95 || c == 36

-- 7.6, cut: a name begins with `$`
abbrev pub is_name : Name → Bool
is_name [] = false
is_name (c ∷ cs) = c == 36 && list_all is_name_byte cs

-- a name that is declared, set or leads somewhere; `$catch` is only read
abbrev pub is_own_name : Name → Bool
is_own_name x = is_name x && not (bytes_eq x (codes "$catch"))

abbrev pub is_own_label : Option Name → Bool
is_own_label None = true
is_own_label (Some x) = is_own_name x

abbrev pub is_byte : ℕ → Bool
is_byte c = nat_lt c 256

-- 8.5, cut
abbrev pub is_in_range : ℕ → Bool
is_in_range n = nat_le n (2 ^ 53)

-- a token may be nested so deep
abbrev pub fits : ℕ → Bool
fits d = nat_le d 1000

-- how deep an expression is nested where one of this level may stand, by its parentheses
abbrev pub depth_within : ℕ → ℕ → Expr → ℕ
depth_within k d e = if nat_lt (level e) k then suc d else d

-- how many operators of a level stand in the chain that an expression is
abbrev pub operators : ℕ → Expr → ℕ
operators k (binary at op a b) = if op_level op == k then suc (operators k a) else 0
operators k (both at a b) = if k == 2 then suc (operators k a) else 0
operators k (either at a b) = if k == 1 then suc (operators k a) else 0
operators k _ = 0

-- how many indices, calls and words after a `.` follow the atom that an expression begins with
abbrev pub parts : Expr → ℕ
parts (call at f es) = suc (parts f)
parts (index at e i) = suc (parts e)
parts (length_of at e) = suc (parts e)
parts (pop at e) = suc (parts e)
parts (char_code_at at e i) = suc (parts e)
parts (substring at e i j) = suc (parts e)
parts _ = 0

abbrev mutual
  -- an expression whose first token, parentheses aside, is nested so deep
  pub expr_fits : ℕ → Expr → Bool
  expr_fits d (number at n) = fits d && is_in_range n
  expr_fits d (string at s) = fits d && list_all is_byte s
  expr_fits d (boolean at b) = fits d
  expr_fits d (null at) = fits d
  expr_fits d (name at x) = fits d && is_name x
  expr_fits d (unary at op e) = expr_fits (depth_within 11 (suc d) e) e
  expr_fits d (binary at op a b) =
      expr_fits (depth_within (op_level op) d a) a && expr_fits (depth_within (suc (op_level op)) (suc (d + operators (op_level op) a)) b) b
  expr_fits d (both at a b) =
      expr_fits (depth_within 2 d a) a && expr_fits (depth_within 3 (suc (d + operators 2 a)) b) b
  expr_fits d (either at a b) =
      expr_fits (depth_within 1 d a) a && expr_fits (depth_within 2 (suc (d + operators 1 a)) b) b
  expr_fits d (choice at t a b) = expr_fits (depth_within 1 d t) t && expr_fits (suc d) a && expr_fits (suc d) b
  expr_fits d (call at f es) =
      expr_fits (depth_within 12 d f) f && fits (d + parts f) && exprs_fit (suc (d + parts f)) es
  expr_fits d (index at e i) = expr_fits (depth_within 12 d e) e && expr_fits (suc (d + parts e)) i
  expr_fits d (length_of at e) = expr_fits (depth_within (dot_level e) d e) e && fits (d + parts e)
  expr_fits d (pop at e) = expr_fits (depth_within (dot_level e) d e) e && fits (d + parts e)
  expr_fits d (char_code_at at e i) =
      expr_fits (depth_within (dot_level e) d e) e && expr_fits (suc (d + parts e)) i
  expr_fits d (substring at e i j) =
      expr_fits (depth_within (dot_level e) d e) e && expr_fits (suc (d + parts e)) i && expr_fits (suc (d + parts e)) j
  expr_fits d (array at es) = fits d && exprs_fit (suc d) es
  expr_fits d (dictionary at) = fits (suc d)
  expr_fits d (decimal_of at e) = expr_fits (suc d) e
  expr_fits d (from_char_code at e) = expr_fits (suc d) e

  pub exprs_fit : ℕ → Exprs → Bool
  exprs_fit d no_exprs = true
  exprs_fit d (expr e es) = expr_fits d e && exprs_fit d es

-- what may stand as a statement
abbrev pub is_call : Expr → Bool
is_call (call at f es) = true
is_call (pop at e) = true
is_call _ = false

abbrev mutual
  -- a statement whose first token is nested so deep
  pub stmt_fits : ℕ → Stmt → Bool
  stmt_fits d (declare at x e) = is_own_name x && expr_fits d e
  stmt_fits d (assign at x e) = is_own_name x && expr_fits d e
  stmt_fits d (store at e i v) =
      expr_fits (depth_within 12 d e) e && expr_fits (suc (d + parts e)) i && expr_fits d v
  stmt_fits d (perform at e) = is_call e && expr_fits d e
  stmt_fits d (push at e v) = expr_fits (depth_within (dot_level e) d e) e && expr_fits (suc (d + parts e)) v
  stmt_fits d (remove at e k) = expr_fits (depth_within 12 d e) e && expr_fits (suc (d + parts e)) k
  stmt_fits d (branch at t ss other) = expr_fits (suc d) t && stmts_fit (suc d) ss && else_fits d other
  stmt_fits d (while at l t ss) = is_own_label l && expr_fits (suc d) t && stmts_fit (suc d) ss
  stmt_fits d (forever at l ss) = is_own_label l && fits (suc d) && stmts_fit (suc d) ss
  stmt_fits d (switch at l e cases) = is_own_label l && expr_fits (suc d) e && cases_fit (suc d) cases
  stmt_fits d (return at None) = fits d
  stmt_fits d (return at (Some e)) = expr_fits d e
  stmt_fits d (throw at e) = expr_fits d e
  stmt_fits d (break at l) = fits d && is_own_label l
  stmt_fits d (continue at l) = fits d && is_own_label l
  stmt_fits d (attempt at ss handler) = fits (suc d) && stmts_fit (suc d) ss && stmts_fit (suc d) handler

  pub stmts_fit : ℕ → Stmts → Bool
  stmts_fit d no_stmts = true
  stmts_fit d (stmt s ss) = stmt_fits d s && stmts_fit d ss

  -- what follows an `else` is nested one deeper
  pub else_fits : ℕ → Else → Bool
  else_fits d no_else = true
  else_fits d (else_block ss) = fits (suc d) && stmts_fit (suc (suc d)) ss
  else_fits d (else_if at t ss other) =
      expr_fits (suc (suc d)) t && stmts_fit (suc (suc d)) ss && else_fits (suc d) other

  pub cases_fit : ℕ → Cases → Bool
  cases_fit d no_cases = true
  cases_fit d (default ss) = fits d && stmts_fit d ss
  cases_fit d (case n ss rest) = fits d && is_in_range n && stmts_fit d ss && cases_fit d rest

abbrev pub item_fits : Item → Bool
item_fits (function_item f) = is_own_name f.name && list_all is_own_name f.params && stmts_fit 1 f.body
item_fits (global_item at x e) = is_own_name x && expr_fits 0 e

abbrev pub is_printable : ScriptTree → Bool
is_printable script = list_all item_fits script.items && is_name script.start

abbrev pub IsPrintable : ScriptTree → Type 0
IsPrintable script = IsTrue (is_printable script)
