-- What the program's readers answer, as trees and tokens of the grammar.
use Rattle.std.specs.Prelude.{ℕ, List, map, Option}
use Rattle.js_tree.specs.Lexical.{Placed}
use Rattle.js_tree.specs.Script.{Name, Expr, Stmt, Stmts, Else, Cases, Item, ScriptTree}
use Rattle.js_tree.specs.View.{expr_view, stmt_view, stmts_view, else_view, cases_view, case_view, item_view, script_view}
use Rattle.js_tree.specs.declared.tree.JsExpr.{JsExpr}
use Rattle.js_tree.specs.declared.tree.JsStmt.{JsStmt}
use Rattle.js_tree.specs.declared.tree.JsStmts.{JsStmts}
use Rattle.js_tree.specs.declared.tree.JsElse.{JsElse}
use Rattle.js_tree.specs.declared.tree.JsCases.{JsCases}
use Rattle.js_tree.specs.declared.tree.JsCase.{JsCase}
use Rattle.js_tree.specs.declared.tree.JsItem.{JsItem}
use Rattle.js_tree.specs.declared.tree.Script.{Script}
use Rattle.js_grammar.specs.Tokens.{places}
use Rattle.js_grammar.specs.declared.token.Token.{Token}
use Rattle.std.specs.Borrow.{Bor}
use Rattle.std.specs.Global.{Vec}

abbrev pub rest_read : Bor (List Token) → Unit {0} × List Placed
rest_read r = (tt, places r.now)

abbrev pub expr_read : JsExpr × Bor (List Token) → Expr × List Placed
expr_read p = (expr_view p.0, places p.1.now)

abbrev pub post_read : (JsExpr × ℕ × Bor (List Token)) → (Expr × ℕ) × List Placed
post_read p = ((expr_view p.0, p.1), places p.2.now)

abbrev pub text_read : List ℕ × Bor (List Token) → Name × List Placed
text_read p = (p.0, places p.1.now)

abbrev pub number_read : ℕ × Bor (List Token) → ℕ × List Placed
number_read p = (p.0, places p.1.now)

abbrev pub stmt_read : JsStmt × Bor (List Token) → Stmt × List Placed
stmt_read p = (stmt_view p.0, places p.1.now)

abbrev pub exprs_read : Vec JsExpr × Bor (List Token) → List Expr × List Placed
exprs_read p = (map expr_view p.0.items, places p.1.now)

abbrev pub stmts_read : JsStmts × Bor (List Token) → Stmts × List Placed
stmts_read p = (stmts_view p.0, places p.1.now)

abbrev pub else_read : JsElse × Bor (List Token) → Else × List Placed
else_read p = (else_view p.0, places p.1.now)

abbrev pub cases_read : JsCases × Bor (List Token) → Cases × List Placed
cases_read p = (cases_view p.0, places p.1.now)

abbrev pub case_read : JsCase × Bor (List Token) → (Cases → Cases) × List Placed
case_read p = (case_view p.0, places p.1.now)

abbrev pub items_read : Vec JsItem × Bor (List Token) → List Item × List Placed
items_read p = (map item_view p.0.items, places p.1.now)

abbrev pub item_read : JsItem × Bor (List Token) → Item × List Placed
item_read p = (item_view p.0, places p.1.now)

abbrev pub names_read : Vec (List ℕ) × Bor (List Token) → List Name × List Placed
names_read p = (p.0.items, places p.1.now)

abbrev pub script_read : Script × Bor (List Token) → ScriptTree × List Placed
script_read p = (script_view p.0, places p.1.now)

abbrev pub label_read : Option (List ℕ) × Bor (List Token) → Option Name × List Placed
label_read p = (p.0, places p.1.now)

abbrev pub declared_read : (List ℕ × JsExpr × Bor (List Token)) → (Name × Expr) × List Placed
declared_read p = ((p.0, expr_view p.1), places p.2.now)
