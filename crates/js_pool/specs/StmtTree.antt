-- What stands after `else`.
use Rattle.std.specs.Prelude.{List, [], ◌∷◌, Bool, true, false}
use Rattle.js_tree.specs.Script.{branch, Stmts, no_stmts, stmt, Else, else_block, else_if}
use Rattle.js_pool.specs.declared.node.Stmt.{Stmt}
use Rattle.js_pool.specs.declared.node.Stmt.TheVariants as line

-- a block after `else`: one that is just an `if` is an `else if`
abbrev pub else_tree : Stmts → Else
else_tree (stmt (branch at e ss other) no_stmts) = else_if at e ss other
else_tree ss = else_block ss

-- whether statements of the tables are just an `if`
abbrev pub is_one_if : List Stmt → Bool
is_one_if (line.If a b other ∷ []) = true
is_one_if _ = false
