-- Places aside: the same tree with every offset 0.
use Rattle.std.specs.Prelude.{map, option_map}
use Rattle.js_tree.specs.Script.{Expr, number, string, boolean, null, name, unary, binary, both, either, choice, call, index, length_of, pop, char_code_at, substring, array, dictionary, decimal_of, from_char_code, Exprs, no_exprs, expr, Stmt, declare, assign, store, perform, push, remove, branch, while, forever, switch, return, throw, break, continue, attempt, Stmts, no_stmts, stmt, Else, no_else, else_block, else_if, Cases, no_cases, default, case, Item, function_item, global_item, ScriptTree}

abbrev mutual
  pub erase_expr : Expr → Expr
  erase_expr (number at n) = number 0 n
  erase_expr (string at s) = string 0 s
  erase_expr (boolean at b) = boolean 0 b
  erase_expr (null at) = null 0
  erase_expr (name at x) = name 0 x
  erase_expr (unary at op e) = unary 0 op (erase_expr e)
  erase_expr (binary at op a b) = binary 0 op (erase_expr a) (erase_expr b)
  erase_expr (both at a b) = both 0 (erase_expr a) (erase_expr b)
  erase_expr (either at a b) = either 0 (erase_expr a) (erase_expr b)
  erase_expr (choice at t a b) = choice 0 (erase_expr t) (erase_expr a) (erase_expr b)
  erase_expr (call at f es) = call 0 (erase_expr f) (erase_exprs es)
  erase_expr (index at e i) = index 0 (erase_expr e) (erase_expr i)
  erase_expr (length_of at e) = length_of 0 (erase_expr e)
  erase_expr (pop at e) = pop 0 (erase_expr e)
  erase_expr (char_code_at at e i) = char_code_at 0 (erase_expr e) (erase_expr i)
  erase_expr (substring at e i j) = substring 0 (erase_expr e) (erase_expr i) (erase_expr j)
  erase_expr (array at es) = array 0 (erase_exprs es)
  erase_expr (dictionary at) = dictionary 0
  erase_expr (decimal_of at e) = decimal_of 0 (erase_expr e)
  erase_expr (from_char_code at e) = from_char_code 0 (erase_expr e)

  pub erase_exprs : Exprs → Exprs
  erase_exprs no_exprs = no_exprs
  erase_exprs (expr e es) = expr (erase_expr e) (erase_exprs es)

abbrev mutual
  pub erase_stmt : Stmt → Stmt
  erase_stmt (declare at x e) = declare 0 x (erase_expr e)
  erase_stmt (assign at x e) = assign 0 x (erase_expr e)
  erase_stmt (store at e i v) = store 0 (erase_expr e) (erase_expr i) (erase_expr v)
  erase_stmt (perform at e) = perform 0 (erase_expr e)
  erase_stmt (push at e v) = push 0 (erase_expr e) (erase_expr v)
  erase_stmt (remove at e k) = remove 0 (erase_expr e) (erase_expr k)
  erase_stmt (branch at t ss other) = branch 0 (erase_expr t) (erase_stmts ss) (erase_else other)
  erase_stmt (while at l t ss) = while 0 l (erase_expr t) (erase_stmts ss)
  erase_stmt (forever at l ss) = forever 0 l (erase_stmts ss)
  erase_stmt (switch at l e cs) = switch 0 l (erase_expr e) (erase_cases cs)
  erase_stmt (return at e) = return 0 (option_map erase_expr e)
  erase_stmt (throw at e) = throw 0 (erase_expr e)
  erase_stmt (break at l) = break 0 l
  erase_stmt (continue at l) = continue 0 l
  erase_stmt (attempt at ss handler) = attempt 0 (erase_stmts ss) (erase_stmts handler)

  pub erase_stmts : Stmts → Stmts
  erase_stmts no_stmts = no_stmts
  erase_stmts (stmt s ss) = stmt (erase_stmt s) (erase_stmts ss)

  pub erase_else : Else → Else
  erase_else no_else = no_else
  erase_else (else_block ss) = else_block (erase_stmts ss)
  erase_else (else_if at t ss other) = else_if 0 (erase_expr t) (erase_stmts ss) (erase_else other)

  pub erase_cases : Cases → Cases
  erase_cases no_cases = no_cases
  erase_cases (default ss) = default (erase_stmts ss)
  erase_cases (case n ss rest) = case n (erase_stmts ss) (erase_cases rest)

abbrev pub erase_item : Item → Item
erase_item (function_item f) = function_item (record { name = f.name; params = f.params; body = erase_stmts f.body; at = 0 })
erase_item (global_item at x e) = global_item 0 x (erase_expr e)

-- a script, places aside
abbrev pub erase : ScriptTree → ScriptTree
erase script = record { items = map erase_item script.items; start = script.start; start_at = 0 }
