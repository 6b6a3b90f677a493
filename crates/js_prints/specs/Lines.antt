-- own: a `main` that prints texts, each on a line of its own.
use Rattle.std.specs.Prelude.{ℕ, List, [], ◌∷◌, true}
use Rattle.go_type.specs.Tree as ty
use Rattle.go_core.specs.CoreTree as core
use Rattle.go_core.specs.CoreTree.{Stmts, no_stmts, stmt, expr, no_exprs, text_constant}

-- `println` of a text
abbrev pub print_line : List ℕ → core.Stmt
print_line text = core.print (expr (core.constant ty.str (text_constant text)) no_exprs) true

abbrev pub print_lines : List (List ℕ) → Stmts
print_lines [] = no_stmts
print_lines (text ∷ texts) = stmt (print_line text) (print_lines texts)
