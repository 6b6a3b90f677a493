-- Go specification (as of Go 1.17), "Calls": what is called by its name, and the names that are called in an
-- expression.
use Rattle.std.specs.Borrow.{Bor}
use Rattle.std.specs.Prelude.{ℕ, ◌≡◌, ◌<◌, List, [], ◌∷◌, ◌++◌, Option, Some, None, map, if◌then◌else◌}
use Rattle.go_syntax.specs.Tree.{Expr, NameExpr, ParenExpr, UnaryExpr, BinaryExpr, IndexExpr, SliceExpr, CallExpr, MaybeExpr, NoExpr, AnExpr, Exprs, NoExprs, MoreExprs}
use Rattle.go_type.specs.Tree.{Ty}
use Rattle.go_type.specs.Levels.{tree_of, trees_of, SigBelow}
use Rattle.go_typing.specs.Env.{Bind, lookup, is_blank}
use Rattle.go_typing.specs.Typing as typing
use Rattle.go_operands.specs.BuiltinView.{builtin_view}
use Rattle.go_calls.specs.Function.{given_type}
use Rattle.go_calls.specs.declared.callee.callee.Callee.{Callee}
use Rattle.go_calls.specs.declared.callee.callee.Callee.TheVariants as code

-- the name that is called, if it is one
abbrev pub name_in : Expr → Option (List ℕ)
name_in (NameExpr at x) = if is_blank x then None else Some x
name_in (ParenExpr at x) = name_in x
name_in _ = None

abbrev pub callee_named : List (List Bind) → Option (List ℕ) → typing.Callee
callee_named ss None = typing.by_value
callee_named ss (Some x) = typing.declared_callee (lookup x ss)

-- what is called, as the definitions have it
abbrev pub callee_view : List Ty → Callee → typing.Callee
callee_view ts (code.Function id sig gives) = typing.a_function id.0 (trees_of ts sig.now.params) (trees_of ts sig.now.results) sig.now.variadic
callee_view ts (code.BuiltIn b) = typing.a_built_in (builtin_view b)
callee_view ts code.Value = typing.by_value

-- its types are among the first n, and what a call gives has the type of the one result, or of the tuple of all
abbrev pub CalleeFits : List Ty → ℕ → Callee → Type 0
CalleeFits ts n (code.Function id sig gives) = SigBelow n sig.now × ((gives.0 < n) × (tree_of ts gives ≡ given_type (trees_of ts sig.now.results)))
CalleeFits ts n _ = Unit {0}

abbrev pub one_name : Option (List ℕ) → List (List ℕ)
one_name None = []
one_name (Some x) = x ∷ []

abbrev mutual
  -- the names that are called in an expression
  pub called_in : Expr → List (List ℕ)
  called_in (ParenExpr at x) = called_in x
  called_in (UnaryExpr at op x) = called_in x
  called_in (BinaryExpr at x op y) = called_in x ++ called_in y
  called_in (IndexExpr at x i) = called_in x ++ called_in i
  called_in (SliceExpr at x low high most) = called_in x ++ called_in_bound low ++ called_in_bound high ++ called_in_bound most
  called_in (CallExpr at f xs spread) = one_name (name_in f) ++ called_in f ++ called_in_all xs
  called_in _ = []

  pub called_in_bound : MaybeExpr → List (List ℕ)
  called_in_bound NoExpr = []
  called_in_bound (AnExpr x) = called_in x

  pub called_in_all : Exprs → List (List ℕ)
  called_in_all NoExprs = []
  called_in_all (MoreExprs x xs) = called_in x ++ called_in_all xs

-- own: names that stand in a tree, as texts
abbrev pub texts : List (Bor (List ℕ)) → List (List ℕ)
texts xs = map (λ x. x.now) xs
