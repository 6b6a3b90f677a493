-- Short words for the rows: declarations of a package with their places, as after `package main` and an empty line.
use Rattle.std.specs.Prelude.{ℕ, List, [], ◌∷◌, Bool, Some, None}
use Rattle.go_syntax.specs.Tree as t
use Rattle.go_syntax.specs.declared.tree.Name.{Name}
use Rattle.go_typing.specs.Answer.{Flaw}
use Rattle.go_typing.specs.TypingRowWords.{at}
use Rattle.go_typing.specs.Known.{outside}
use Rattle.go_typing.specs.Functions.{functions_from}
use Rattle.go_typing.specs.Checked.{known_in, between_of}

-- a parameter or result before others
abbrev pub type_alone : ℕ → Bool → t.Expr → t.Params → t.Params
type_alone n variadic u ps = t.MoreParams (at n) None variadic u ps

abbrev pub with_type : Name → Bool → t.Expr → t.Params → t.Params
with_type n variadic u ps = t.MoreParams n.place (Some n) variadic u ps

abbrev pub params : List (t.Params → t.Params) → t.Params
params [] = t.NoParams
params (p ∷ ps) = p (params ps)

-- what is told of the bodies where the function there is the first one too many
abbrev pub bodies_told : ℕ → List t.Decl → List Flaw
bodies_told n ds = (functions_from (Some (at n)) (outside (known_in ds)) ds (between_of (known_in ds))).flaws
