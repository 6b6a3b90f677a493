-- Own: what was done, with a statement that does nothing where nothing came to it.
use Rattle.std.specs.Prelude.{List, [], ◌∷◌, ◌++◌, Bool, true, false}
use Rattle.go_core.specs.CoreTree as core

abbrev pub stood : Bool → List core.Stmt → List core.Stmt
stood true ss = ss ++ core.sequence core.no_stmts ∷ []
stood false ss = ss
