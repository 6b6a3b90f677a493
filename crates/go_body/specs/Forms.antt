-- Own: forms of statements.
use Rattle.std.specs.Prelude.{Bool, true, false}
use Rattle.go_syntax.specs.Tree as t

-- a short declaration
abbrev pub is_define : t.Stmt → Bool
is_define (t.DefineStmt at xs ys) = true
is_define _ = false

abbrev pub is_fallthrough : t.Stmt → Bool
is_fallthrough (t.FallthroughStmt at) = true
is_fallthrough _ = false

-- statements in it are gone through
abbrev pub has_statements : t.Stmt → Bool
has_statements (t.BlockStmt at b) = true
has_statements (t.IfStmt at init x b other) = true
has_statements (t.ForStmt at init x post b) = true
has_statements (t.SwitchStmt at init x cs) = true
has_statements (t.LabeledStmt at n s) = true
has_statements _ = false
