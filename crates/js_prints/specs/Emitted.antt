-- The script of a program that only prints: one call of `$write` for each print.
use Rattle.std.specs.Prelude.{◌++◌, List, [], ◌∷◌, ℕ, Bool, true, false, codes, IsTrue, Option, Some, None, slice_get}
use Rattle.js_tree.specs.Script.{Name, name, string, call, no_exprs, expr, perform, Function, function_item, ScriptTree}
use Rattle.js_tree.specs.Script as script
use Rattle.js_tree.specs.View.{stmts_of}
use Rattle.js_tree.specs.Printable.{stmts_fit}
use Rattle.go_core.specs.CoreTree as core
use Rattle.go_core.specs.CoreTree.{Expr, Exprs, Stmt, Stmts, CoreFunc, CoreProgram, text_constant}
use Rattle.go_core.specs.Text.{line_of, joined}

-- own: the function that the script begins with
abbrev pub start_name : Name
start_name = codes "$start"

abbrev pub write_name : Name
write_name = codes "$write"

-- `$write("..");`
abbrev pub write_of : List ℕ → script.Stmt
write_of bytes = perform 0 (call 0 (name 0 write_name) (expr (string 0 bytes) no_exprs))

-- what a constant string prints
abbrev pub text_in : Expr → List ℕ
text_in (core.constant t (text_constant bytes)) = bytes
text_in _ = []

-- the texts of operands
abbrev pub texts_in : Exprs → List (List ℕ)
texts_in core.no_exprs = []
texts_in (core.expr e es) = text_in e ∷ texts_in es

-- what is printed of operands
abbrev pub output : Bool → List (List ℕ) → List ℕ
output true texts = line_of texts
output false texts = joined texts

-- the call that a print becomes
abbrev pub writes_of : Stmt → List script.Stmt
writes_of (core.print es ends_line) = write_of (output ends_line (texts_in es)) ∷ []
writes_of _ = []

abbrev pub all_writes_of : Stmts → List script.Stmt
all_writes_of core.no_stmts = []
all_writes_of (core.stmt s ss) = writes_of s ++ all_writes_of ss

-- the start function, whose body is that of `main`
abbrev pub start_with : List script.Stmt → Function
start_with calls = record { name = start_name; params = []; body = stmts_of calls; at = 0 }

abbrev pub script_with : List script.Stmt → ScriptTree
script_with calls = record { items = function_item (start_with calls) ∷ []; start = start_name; start_at = 0 }

abbrev pub start_of : Stmts → Function
start_of body = start_with (all_writes_of body)

abbrev pub script_of : Stmts → ScriptTree
script_of body = script_with (all_writes_of body)

-- the body of a function, where there is one
abbrev pub body_in : Option CoreFunc → Stmts
body_in None = core.no_stmts
body_in (Some f) = f.body

-- the body of `main`
abbrev pub body_of_main : CoreProgram → Stmts
body_of_main p = body_in (slice_get p.funcs p.main)

-- each statement can be printed as one of a function's body
abbrev pub AllFit : List script.Stmt → Type 0
AllFit ss = IsTrue (stmts_fit 1 (stmts_of ss))
