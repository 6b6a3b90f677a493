-- The tree that a script of the program stands for: the same without boxes and vectors.
use Rattle.std.specs.Prelude.{ℕ, List, [], ◌∷◌, map, Option, Some, None, option_map}
use Rattle.js_tree.specs.Script as tree
use Rattle.js_tree.specs.Script.{Expr, Exprs, no_exprs, expr, Stmt, Stmts, no_stmts, stmt, Else, no_else, else_block, else_if, Cases, no_cases, default, case, Item, ScriptTree}
use Rattle.js_tree.specs.declared.tree.JsExpr.{JsExpr, fold-JsExpr}
use Rattle.js_tree.specs.declared.tree.JsExprs.{JsExprs, fold-JsExprs}
use Rattle.js_tree.specs.declared.tree.ExprForm.{ExprForm-F}
use Rattle.js_tree.specs.declared.tree.JsStmt.{JsStmt, fold-JsStmt}
use Rattle.js_tree.specs.declared.tree.JsStmts.{JsStmts, fold-JsStmts}
use Rattle.js_tree.specs.declared.tree.JsElse.{JsElse, fold-JsElse, JsElse-F}
use Rattle.js_tree.specs.declared.tree.JsElse.TheOpen.{JsCase-F, JsCases-F, JsElseIf-F, JsStmt-F, JsStmts-F}
use Rattle.js_tree.specs.declared.tree.JsElseIf.{JsElseIf, fold-JsElseIf}
use Rattle.js_tree.specs.declared.tree.JsCases.{JsCases, fold-JsCases}
use Rattle.js_tree.specs.declared.tree.JsCase.{JsCase, fold-JsCase}
use Rattle.js_tree.specs.declared.tree.StmtForm.{StmtForm-F}
use Rattle.js_tree.specs.declared.tree.JsFunction.{JsFunction}
use Rattle.js_tree.specs.declared.tree.JsItem.{JsItem}
use Rattle.js_tree.specs.declared.tree.JsItem.TheVariants as item
use Rattle.js_tree.specs.declared.tree.Script.{Script}

abbrev pub exprs_of : List Expr → Exprs
exprs_of [] = no_exprs
exprs_of (e ∷ es) = expr e (exprs_of es)

-- a form at an offset
abbrev pub expr_form : ExprForm-F (ℕ → Expr) Expr Exprs → ℕ → Expr
expr_form (ExprForm-F.Number n) at = tree.number at n
expr_form (ExprForm-F.Str s) at = tree.string at s
expr_form (ExprForm-F.Bool b) at = tree.boolean at b
expr_form ExprForm-F.Null at = tree.null at
expr_form (ExprForm-F.Name x) at = tree.name at x
expr_form (ExprForm-F.Unary op e) at = tree.unary at op e.value
expr_form (ExprForm-F.Binary op a b) at = tree.binary at op a.value b.value
expr_form (ExprForm-F.And a b) at = tree.both at a.value b.value
expr_form (ExprForm-F.Or a b) at = tree.either at a.value b.value
expr_form (ExprForm-F.Conditional t a b) at = tree.choice at t.value a.value b.value
expr_form (ExprForm-F.Call f es) at = tree.call at f.value es
expr_form (ExprForm-F.Index e i) at = tree.index at e.value i.value
expr_form (ExprForm-F.Length e) at = tree.length_of at e.value
expr_form (ExprForm-F.Pop e) at = tree.pop at e.value
expr_form (ExprForm-F.CharCodeAt e i) at = tree.char_code_at at e.value i.value
expr_form (ExprForm-F.Substring e i j) at = tree.substring at e.value i.value j.value
expr_form (ExprForm-F.Array es) at = tree.array at es
expr_form ExprForm-F.Dictionary at = tree.dictionary at
expr_form (ExprForm-F.Decimal e) at = tree.decimal_of at e.value
expr_form (ExprForm-F.FromCharCode e) at = tree.from_char_code at e.value

-- the tree of an expression
abbrev pub expr_view : JsExpr → Expr
expr_view = fold-JsExpr (ℕ → Expr) Expr Exprs expr_form (λ e. e.form e.at) (λ es. exprs_of es.items.items)

abbrev pub exprs_view : JsExprs → Exprs
exprs_view = fold-JsExprs (ℕ → Expr) Expr Exprs expr_form (λ e. e.form e.at) (λ es. exprs_of es.items.items)

abbrev pub stmts_of : List Stmt → Stmts
stmts_of [] = no_stmts
stmts_of (s ∷ ss) = stmt s (stmts_of ss)

-- cases before what stands after the last of them
abbrev pub cases_of : List (Cases → Cases) → Cases → Cases
cases_of [] last = last
cases_of (c ∷ cs) last = c (cases_of cs last)

abbrev pub last_case : Option Stmts → Cases
last_case None = no_cases
last_case (Some ss) = default ss

abbrev pub stmt_form : StmtForm-F Else (ℕ → Stmt) (Cases → Cases) Cases Else Stmt Stmts → ℕ → Stmt
stmt_form (StmtForm-F.Declare x e) at = tree.declare at x (expr_view e)
stmt_form (StmtForm-F.Assign x e) at = tree.assign at x (expr_view e)
stmt_form (StmtForm-F.Store e i v) at = tree.store at (expr_view e) (expr_view i) (expr_view v)
stmt_form (StmtForm-F.Perform e) at = tree.perform at (expr_view e)
stmt_form (StmtForm-F.Push e v) at = tree.push at (expr_view e) (expr_view v)
stmt_form (StmtForm-F.Delete e k) at = tree.remove at (expr_view e) (expr_view k)
stmt_form (StmtForm-F.If t ss other) at = tree.branch at (expr_view t) ss other
stmt_form (StmtForm-F.While l t ss) at = tree.while at l (expr_view t) ss
stmt_form (StmtForm-F.Forever l ss) at = tree.forever at l ss
stmt_form (StmtForm-F.Switch l e cs) at = tree.switch at l (expr_view e) cs
stmt_form (StmtForm-F.Return e) at = tree.return at (option_map expr_view e)
stmt_form (StmtForm-F.Throw e) at = tree.throw at (expr_view e)
stmt_form (StmtForm-F.Break l) at = tree.break at l
stmt_form (StmtForm-F.Continue l) at = tree.continue at l
stmt_form (StmtForm-F.Try ss handler) at = tree.attempt at ss handler

abbrev pub else_form : JsElse-F Else (ℕ → Stmt) (Cases → Cases) Cases Else Stmt Stmts → Else
else_form JsElse-F.Nothing = no_else
else_form (JsElse-F.Block ss) = else_block ss
else_form (JsElse-F.ElseIf other) = other.value

abbrev pub case_form : JsCase-F Else (ℕ → Stmt) (Cases → Cases) Cases Else Stmt Stmts → Cases → Cases
case_form c = case c.number c.body

abbrev pub cases_form : JsCases-F Else (ℕ → Stmt) (Cases → Cases) Cases Else Stmt Stmts → Cases
cases_form cs = cases_of cs.items.items (last_case cs.default)

abbrev pub else_if_form : JsElseIf-F Else (ℕ → Stmt) (Cases → Cases) Cases Else Stmt Stmts → Else
else_if_form i = else_if i.at (expr_view i.test) i.body i.rest

abbrev pub stmt_at : JsStmt-F Else (ℕ → Stmt) (Cases → Cases) Cases Else Stmt Stmts → Stmt
stmt_at s = s.form s.at

abbrev pub stmts_in : JsStmts-F Else (ℕ → Stmt) (Cases → Cases) Cases Else Stmt Stmts → Stmts
stmts_in ss = stmts_of ss.items.items

-- the tree of a statement
abbrev pub stmt_view : JsStmt → Stmt
stmt_view = fold-JsStmt Else (ℕ → Stmt) (Cases → Cases) Cases Else Stmt Stmts else_form stmt_form case_form cases_form else_if_form stmt_at stmts_in

abbrev pub stmts_view : JsStmts → Stmts
stmts_view = fold-JsStmts Else (ℕ → Stmt) (Cases → Cases) Cases Else Stmt Stmts else_form stmt_form case_form cases_form else_if_form stmt_at stmts_in

abbrev pub else_view : JsElse → Else
else_view = fold-JsElse Else (ℕ → Stmt) (Cases → Cases) Cases Else Stmt Stmts else_form stmt_form case_form cases_form else_if_form stmt_at stmts_in

abbrev pub cases_view : JsCases → Cases
cases_view = fold-JsCases Else (ℕ → Stmt) (Cases → Cases) Cases Else Stmt Stmts else_form stmt_form case_form cases_form else_if_form stmt_at stmts_in

abbrev pub case_view : JsCase → Cases → Cases
case_view = fold-JsCase Else (ℕ → Stmt) (Cases → Cases) Cases Else Stmt Stmts else_form stmt_form case_form cases_form else_if_form stmt_at stmts_in

abbrev pub else_if_view : JsElseIf → Else
else_if_view = fold-JsElseIf Else (ℕ → Stmt) (Cases → Cases) Cases Else Stmt Stmts else_form stmt_form case_form cases_form else_if_form stmt_at stmts_in

abbrev pub function_view : JsFunction → tree.Function
function_view f = record { name = f.name; params = f.params.items; body = stmts_view f.body; at = f.at }

abbrev pub item_view : JsItem → Item
item_view (item.Function f) = tree.function_item (function_view f)
item_view (item.Global x e at) = tree.global_item at x (expr_view e)

-- the tree of a script
abbrev pub script_view : Script → ScriptTree
script_view s = record { items = map item_view s.items.items; start = s.start; start_at = s.start_at }
