-- Own: lists of expressions in the code, cell by cell.
use Rattle.std.specs.Prelude.{ℕ, suc, List, Option, Some, None}
use Rattle.js_tree.specs.Script.{Exprs, no_exprs, expr}
use Rattle.js_code.specs.Parts.{Tree, expr_at, exprs_at}
use Rattle.js_simple.specs.declared.list.Cell.{Cell}

-- the expressions that a list goes on with
abbrev pub exprs_of : List Tree → Option Cell → Exprs
exprs_of trees (Some cell) = expr (expr_at trees cell.first) (exprs_at trees cell.rest)
exprs_of trees None = no_exprs

-- how many there are
abbrev pub count_of : Exprs → ℕ
count_of no_exprs = 0
count_of (expr e es) = suc (count_of es)
